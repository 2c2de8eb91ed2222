use Rattle.std.proofs.Common.{◌≡◌, ◌+◌, length, sym, refl, ◌∙◌, arith}
use Rattle.packet.specs.Frame.{summed, whole_in}
use Rattle.packet.proofs.Chunks.{sums_of_long}
use Rattle.packet.proofs.Frames.{filled}
use Rattle.packet.proofs.frame.put_frame.Goals as goal

pub returns : goal.returns
returns c =
    let p = summed c.args.chunk_size c.args.packet in
    let n = length c.args.packet.«data».now in
    let long = c.requires.sums_value ∙ sym (sums_of_long c.args.chunk_size c.args.packet.«data».now) in
    let whole : 4 + c.args.sums + n ≡ whole_in p = omega arith in
    filled p c.args.out.now _ _ c.args.sums n c.put_lengths.ensures c.put_header.ensures c.put_sums.ensures c.copy_from_slice.ensures.after
    whole c.header_len-head.ensures.value long refl (omega (arith, c.requires.out_len, c.header_len-head.ensures.value))
