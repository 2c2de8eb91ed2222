-- Buffers of a size's lengths, and openings of that size.
use Rattle.std.proofs.Common.{◌≡◌, ℕ, ◌*◌, ◌≤◌, None, arith, mul-le-mul_right}
use Rattle.std.proofs.lemmas.Bool.Decides.{nat_tests}
use Rattle.packet.specs.Sizes.{capacity_of, frame_capacity_of}
use Rattle.writer.specs.declared.admit.Lengths.{Lengths}
use Rattle.writer.specs.declared.opening.Opening.{Opening}
use Rattle.writer.specs.Opening.{by_buffers}

-- an opening of this size is not refused for buffers of these lengths
pub never_short : (o : Opening) (l : Lengths) (slots c p : ℕ) → o.chunk_size ≡ c → o.packet_size ≡ p → 3 ≤ slots → l.store ≡ slots * capacity_of 4 c p
    → l.frame ≡ frame_capacity_of 4 c p → l.request ≡ 4096 → l.answer ≡ 4096 → by_buffers o l ≡ None
never_short o l slots c p chunk packet few store frame request answer =
    let fits = mul-le-mul_right (capacity_of 4 c p) few in
    grind (arith, nat_tests)
