-- A pipeline's answer as datanodes write it. Assumes nothing.
use Rattle.std.specs.Prelude.{◌≡◌, ℕ, ◌+◌, ◌-◌, ◌*◌, ◌^◌, ◌<◌, ◌≤◌, false, cond, ◌&&◌, List, [], ◌∷◌, ◌++◌, map, length, drop, Some, None, Ok, Option, nat_le, nat_lt}
use Rattle.wire.specs.Fields.{WireField, varint, encode_all}
use Rattle.ack.specs.Acks.{ack_of}

-- a signed number, held as its 64 bits, written zigzag: 0, -1, 1, -2, .. as 0, 1, 2, 3, ..
abbrev pub zag : ℕ → ℕ
zag n = cond (nat_lt n (2 ^ 63)) (2 * n) (2 * (2 ^ 64 - 1 - n) + 1)

-- the number, and a reply for each node, not packed
abbrev pub answer_fields : ℕ → List ℕ → List WireField
answer_fields seqno replies = varint 1 (zag seqno) ∷ map (λ status. varint 2 status) replies

unfoldable pub answer_octets : ℕ → List ℕ → List ℕ
answer_octets seqno replies = encode_all (answer_fields seqno replies)

-- the answer stands at the front of a buffer; or there are more than eight replies, or it does not fit
abbrev pub answered : ℕ → List ℕ → List ℕ → List ℕ → Option ℕ → Type 0
answered seqno replies before after (Some n) = (n ≡ length (answer_octets seqno replies)) × (length replies ≤ 8) × (n ≤ length before) × (after ≡ answer_octets seqno replies ++ drop n before)
answered seqno replies before after None = (after ≡ before) × ((nat_le (length replies) 8 && nat_le (length (answer_octets seqno replies)) (length before)) ≡ false)

-- what is read from an answer is what it was written from
abbrev pub Octet : List ℕ → Type 0
Octet [] = Unit {0}
Octet (b ∷ bs) = (b < 256) × Octet bs

abbrev pub ReadBack : Type 0
ReadBack = (seqno : ℕ) (replies : List ℕ) → seqno < 2 ^ 64 → Octet replies → ack_of (answer_octets seqno replies) ≡ Ok (record { seqno = seqno; codes = replies })
