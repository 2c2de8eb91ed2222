use Rattle.std.proofs.Common.{◌≡◌, ℕ, ◌*◌, ◌≤◌, length, drop}
use Rattle.std.specs.Slice.Iter.{chunks_exact_rest, chunks_exact_size}
use Rattle.crc.specs.Crc.{after}
use Rattle.crc.proofs.update.Given as goal

-- what is left of the bytes takes the register to the answer
abbrev pub invariant-loop-block : goal.invariant-loop-block
invariant-loop-block g l = (k : ℕ) × record {
  size : chunks_exact_size l.block-iterator ≡ 16;
  left : chunks_exact_rest l.block-iterator ≡ drop (16 * k) l.bytes;
  within : 16 * k ≤ length l.bytes;
  value : after g.P.Polynomial.poly l.v (chunks_exact_rest l.block-iterator) ≡ after g.P.Polynomial.poly l.crc l.bytes;
}

abbrev pub invariant-loop-byte : goal.invariant-loop-byte
invariant-loop-byte g l = after g.P.Polynomial.poly l.v (drop l.byte-index l.rest) ≡ after g.P.Polynomial.poly l.crc l.bytes
