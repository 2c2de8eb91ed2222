use Rattle.std.proofs.Common.{◌-◌, refl, arith}
use Rattle.request.specs.declared.transfer_block.TransferBlock.{TransferBlock}
use Rattle.pipeline.specs.Transfers.{copy_octets}
use Rattle.pipeline.proofs.Asking.{stands, long, whole, asked_with}
use Rattle.pipeline.proofs.transfer.send_transfer.Goals as goal

pub returns : goal.returns
returns g c =
    let m : TransferBlock = record { header = c.args.header; target = c.args.target } in
    let s = c.write_request-end.ensures in
    let end = c.write_request-end.result in
    record {
      message = m;
      header = refl;
      target = refl;
      long = long (copy_octets m) c.args.request.now c.write_request-end.new.out end s;
      sent = whole (copy_octets m) c.args.request.now c.write_request-end.new.out end s;
      reply =
          asked_with
          (λ z came. g.L.Link.transfers c.args.link.now c.args.source.now z came c.transfer-came.new.self)
          (copy_octets m) _ c.args.answer.now c.transfer-came.new.answer c.transfer-came.result c.judge_reply.result
          (stands (copy_octets m) c.args.request.now c.write_request-end.new.out end s (end - 0) (omega arith))
          c.transfer-came.ensures c.judge_reply.ensures;
    }
