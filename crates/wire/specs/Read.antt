-- What the octets of a message say, and what is wrong with those that say nothing. Assumes nothing.
use Rattle.std.specs.Prelude.{ℕ, zero, suc, ◌+◌, ◌-◌, ◌*◌, ◌/◌, ◌%◌, ◌^◌, Bool, cond, ◌&&◌, List, [], ◌∷◌, length, take, drop, Ok, Err, Result, ◌==◌, nat_le, nat_lt}
use Rattle.wire.specs.declared.field.Fault.{Fault}
use Rattle.wire.specs.declared.field.Fault.TheVariants as fault
use Rattle.wire.specs.declared.field.DecodeError.{DecodeError}
use Rattle.wire.specs.declared.field.Field.{Field}
use Rattle.wire.specs.declared.field.Field.TheVariants as field
use Rattle.wire.specs.Octets.{from_little}
use Rattle.wire.specs.Fields.{WireField, varint, fixed64, part, fixed32}

-- f of what was read, where something was
abbrev pub and_then : {X Y E : Type 0} → Result X E → (X → Result Y E) → Result Y E
and_then (Ok x) f = f x
and_then (Err e) f = Err e

-- the rest of a varint: its octets so far give `low` and weigh below 2 ^ k, and `at` is the place of the next.
-- A varint has at most ten octets and is below 2 ^ 64
abbrev pub varint_from : ℕ → ℕ → ℕ → List ℕ → Result (ℕ × ℕ) Fault
varint_from k low at [] = Err fault.End
varint_from k low at (b ∷ bs) =
    cond (nat_lt b 128)
    (cond (nat_lt (low + b * 2 ^ k) (2 ^ 64)) (Ok (low + b * 2 ^ k, at + 1)) (Err fault.Varint))
    (cond (nat_lt k 63) (varint_from (k + 7) (low + (b - 128) * 2 ^ k) (at + 1) bs) (Err fault.Varint))

unfoldable pub varint_at : ℕ → List ℕ → Result (ℕ × ℕ) Fault
varint_at at bs = varint_from 0 0 at (drop at bs)

abbrev pub fixed_at : ℕ → ℕ → List ℕ → Result (ℕ × ℕ) Fault
fixed_at n at bs = cond (nat_le (at + n) (length bs)) (Ok (from_little (take n (drop at bs)), at + n)) (Err fault.End)

abbrev pub part_at : ℕ → ℕ → List ℕ → Result (List ℕ × ℕ) Fault
part_at size at bs = cond (nat_le (at + size) (length bs)) (Ok (take size (drop at bs), at + size)) (Err fault.End)

-- a tag is 1 to 2 ^ 29 - 1
abbrev pub is_tag : ℕ → Bool
is_tag tag = nat_lt 0 tag && nat_lt tag (2 ^ 29)

-- the field, where its tag is one
abbrev pub named : ℕ → WireField → ℕ → Result (WireField × ℕ) Fault
named tag f next = cond (is_tag tag) (Ok (f, next)) (Err fault.Key)

-- what follows the key of that wire type and tag: first the value is read, then the tag is looked at, then the wire type
abbrev pub body_at : ℕ → ℕ → ℕ → List ℕ → Result (WireField × ℕ) Fault
body_at kind tag at bs =
    cond (kind == 0) (and_then (varint_at at bs) (λ x. named tag (varint tag x.0) x.1))
    (cond (kind == 1) (and_then (fixed_at 8 at bs) (λ x. named tag (fixed64 tag x.0) x.1))
    (cond (kind == 2) (and_then (varint_at at bs) (λ x. and_then (part_at x.0 x.1 bs) (λ y. named tag (part tag y.0) y.1)))
    (cond (kind == 5) (and_then (fixed_at 4 at bs) (λ x. named tag (fixed32 tag x.0) x.1))
    (cond (is_tag tag) (Err fault.WireType) (Err fault.Key)))))

-- the field whose key stands at that place, and the place past it
unfoldable pub read_field : ℕ → List ℕ → Result (WireField × ℕ) Fault
read_field at bs = and_then (varint_at at bs) (λ x. body_at (x.0 % 8) (x.0 / 8) x.1 bs)

-- a field of the program as one of the message, which leaves out its place
abbrev pub wire : Field → WireField
wire (field.Varint tag place value) = varint tag value
wire (field.Fixed64 tag place value) = fixed64 tag value
wire (field.Part tag place bytes) = part tag bytes.now
wire (field.Fixed32 tag place value) = fixed32 tag value

abbrev pub place_of : Field → ℕ
place_of (field.Varint tag place value) = place
place_of (field.Fixed64 tag place value) = place
place_of (field.Part tag place bytes) = place
place_of (field.Fixed32 tag place value) = place

abbrev pub seen : Result (Field × ℕ) Fault → Result (WireField × ℕ) Fault
seen (Ok x) = Ok (wire x.0, x.1)
seen (Err e) = Err e

-- a fault, with the place of the first octet of its field
abbrev pub in_place : {X : Type 0} → ℕ → Result X Fault → Result X DecodeError
in_place at (Ok x) = Ok x
in_place at (Err e) = Err (record { place = at; fault = e })

-- a message, field by field: `merge` joins each to what was read before it. The fuel is the number of octets, which no count of fields exceeds
abbrev pub decode_from : {S : Type 0} → (S → WireField → Result S Fault) → ℕ → S → ℕ → List ℕ → Result S DecodeError
decode_from merge zero s at bs = Ok s
decode_from merge (suc fuel) s at bs =
    cond (nat_lt at (length bs))
    (and_then (in_place at (read_field at bs)) (λ x. and_then (in_place at (merge s x.0)) (λ t. decode_from merge fuel t x.1 bs)))
    (Ok s)

unfoldable pub decoded : {S : Type 0} → (S → WireField → Result S Fault) → S → List ℕ → Result S DecodeError
decoded merge s bs = decode_from merge (length bs) s 0 bs

-- how many octets of a message a field stands for at the least
abbrev pub weight : WireField → ℕ
weight (varint tag n) = 1
weight (fixed64 tag n) = 1
weight (part tag bs) = length bs
weight (fixed32 tag n) = 1
