use Rattle.std.proofs.Common.{◌-◌, arith}
use Rattle.pipeline.specs.SetUps.{octets_of}
use Rattle.pipeline.proofs.Asking.{stands, long, whole, asked_with}
use Rattle.pipeline.proofs.set_up.send_set_up.Goals as goal

pub returns : goal.returns
returns g c =
    let m = c.request_for-message.result in
    let s = c.write_request-end.ensures in
    let end = c.write_request-end.result in
    record {
      message = m;
      asks = c.request_for-message.ensures;
      long = long (octets_of m) c.args.request.now c.write_request-end.new.out end s;
      sent = whole (octets_of m) c.args.request.now c.write_request-end.new.out end s;
      reply =
          asked_with
          (λ z came. g.L.Link.sets c.args.link.now m.first.now z c.args.wanted.min_bytes came c.set_up-came.new.self)
          (octets_of m) _ c.args.answer.now c.set_up-came.new.answer c.set_up-came.result c.judge_reply.result
          (stands (octets_of m) c.args.request.now c.write_request-end.new.out end s (end - 0) (omega arith))
          c.set_up-came.ensures c.judge_reply.ensures;
    }
