use Rattle.std.proofs.Common.{◌≡◌, ◌+◌, ◌-◌, ◌^◌, ◌<◌, length, sym, ◌∙◌, arith}
use Rattle.packet.specs.Frame.{summed, whole_in, octets_of}
use Rattle.packet.proofs.Chunks.{sums_of_long}
use Rattle.packet.proofs.Frames.{frame_long, fits, too_much, too_long, none_end, none_over, some_end, some_over, carried, carries}
use Rattle.packet.proofs.frame.write_frame.Goals as goal
use Rattle.packet.proofs.frame.write_frame.Goals.{After-header_len}

pub returns-in_err-sums : goal.returns-in_err-sums
returns-in_err-sums c =
    let p = summed c.args.chunk_size c.args.packet in
    let long = sums_of_long c.args.chunk_size c.args.packet.«data».now in
    let much = carried _ _ (sym c.in_err-sums.ensures) in
    let e = too_much p c.args.buf.now (omega arith) in
    record { value = c.from_residual.ensures ∙ none_end p c.args.buf.now e; after = none_over p c.args.buf.now e }

-- where the frame ends, and that its lengths hold it
ends : (c : After-header_len) → (6 + c.header_len.result + c.in_ok-sums.sums + length c.args.packet.«data».now ≡ length (octets_of (summed c.args.chunk_size c.args.packet))) × (whole_in (summed c.args.chunk_size c.args.packet) < 2 ^ 31)
ends c =
    let p = summed c.args.chunk_size c.args.packet in
    let long = sums_of_long c.args.chunk_size c.args.packet.«data».now in
    let can = carries _ _ _ (sym c.in_ok-sums.ensures) in
    (omega (arith, frame_long p, c.header_len.ensures.value, can.1), omega (arith, can.0))

pub returns-then-end-buf : goal.returns-then-end-buf
returns-then-end-buf c =
    let p = summed c.args.chunk_size c.args.packet in
    let at = ends (goal.at.returns-then-end-buf c).After-header_len in
    let e = too_long p c.args.buf.now (omega (arith, at.0, c.if-end-buf.true)) in
    record { value = none_end p c.args.buf.now e; after = none_over p c.args.buf.now e }

pub returns : goal.returns
returns c =
    let p = summed c.args.chunk_size c.args.packet in
    let at = ends (goal.at.returns c).After-header_len in
    let e = fits p c.args.buf.now at.1 (omega (arith, at.0, c.if-end-buf.false)) in
    let end = 6 + c.header_len.result + c.in_ok-sums.sums + length c.args.packet.«data».now in
    record {
      value = some_end p c.args.buf.now end e at.0;
      after = some_over p c.args.buf.now (end - 0) c.put_frame.new.out e (omega (arith, at.0)) c.put_frame.ensures;
    }
