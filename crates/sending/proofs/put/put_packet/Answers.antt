use Rattle.std.proofs.Common.{◌-◌, is_ok, sym, refl, ◌∙◌, subst, arith}
use Rattle.std.specs.Option.{IsSome}
use Rattle.packet.specs.Frame.{summed}
use Rattle.sending.proofs.Frames.{found, within, front}
use Rattle.sending.proofs.put.put_packet.Goals as goal

pub returns-clause-put : goal.returns-clause-put
returns-clause-put g c =
    let is = front (summed c.args.chunk_size c.args.packet) c.args.frame.now c.unwrap-end.result (sym c.unwrap-end.ensures ∙ c.write_frame.ensures.value) c.write_frame.new.buf c.write_frame.ensures.after (c.unwrap-end.result - 0) (omega arith) in
    subst (λ (z : _). g.L.Link.puts c.args.link.now z (is_ok c.put.result) c.put.new.self) is c.put.ensures

pub unwrap-end-requires : goal.unwrap-end-requires
unwrap-end-requires g c =
    subst IsSome (sym (c.write_frame.ensures.value ∙ found (summed c.args.chunk_size c.args.packet) c.args.frame.now c.requires)) refl

pub slice_bounds-put-end : goal.slice_bounds-put-end
slice_bounds-put-end g c =
    within (summed c.args.chunk_size c.args.packet) c.args.frame.now c.unwrap-end.result (sym c.unwrap-end.ensures ∙ c.write_frame.ensures.value) c.write_frame.new.buf c.write_frame.ensures.after
