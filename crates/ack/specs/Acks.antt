-- PipelineAckProto: what the octets of a pipeline's answer say. Assumes nothing.
use Rattle.std.specs.Prelude.{ℕ, ◌-◌, ◌/◌, ◌%◌, ◌^◌, Bool, cond, ◌&&◌, List, [], ◌∷◌, ◌++◌, Ok, Err, Result, ◌==◌, nat_lt}
use Rattle.wire.specs.declared.field.Fault.{Fault}
use Rattle.wire.specs.declared.field.Fault.TheVariants as fault
use Rattle.wire.specs.declared.field.DecodeError.{DecodeError}
use Rattle.wire.specs.Fields.{WireField, varint, fixed64, part, fixed32}
use Rattle.wire.specs.Read.{and_then, decoded}
use Rattle.ack.specs.Packed.{numbers_of}

-- a signed number, written 0, -1, 1, -2, .. as 0, 1, 2, 3, .., and held as its 64 bits: -1 is 2 ^ 64 - 1
abbrev pub zigzag : ℕ → ℕ
zigzag n = cond (n % 2 == 0) (n / 2) (2 ^ 64 - 1 - n / 2)

-- what a field of the answer says
pub data AckPart : Type 0 where
  number : ℕ → AckPart
  replies : List ℕ → AckPart
  nothing : AckPart

-- the tags: seqno is 1, reply 2, downstreamAckTimeNanos 3, flag 4
abbrev pub is_ack_tag : ℕ → Bool
is_ack_tag tag = nat_lt 0 tag && nat_lt tag 5

-- seqno and the time take a varint; replies and flags take a varint each, or many that are packed in a part.
-- The time and the flags say nothing that counts, but the faults of packed flags do
abbrev pub ack_part : WireField → Result AckPart Fault
ack_part (varint tag n) = Ok (cond (tag == 1) (number (zigzag n)) (cond (tag == 2) (replies (n ∷ [])) nothing))
ack_part (part tag bs) =
    cond (tag == 2) (and_then (numbers_of bs) (λ ns. Ok (replies ns)))
    (cond (tag == 4) (and_then (numbers_of bs) (λ _. Ok nothing))
    (cond (is_ack_tag tag) (Err fault.WireType) (Ok nothing)))
ack_part (fixed64 tag n) = cond (is_ack_tag tag) (Err fault.WireType) (Ok nothing)
ack_part (fixed32 tag n) = cond (is_ack_tag tag) (Err fault.WireType) (Ok nothing)

-- the answer's number, and the codes of all its replies in their order
pub record AckFields : Type 0 where
  pub seqno : ℕ
  pub codes : List ℕ

-- the last seqno counts, and replies add up
abbrev pub joined : AckFields → AckPart → AckFields
joined a (number n) = record a { seqno = n }
joined a (replies ns) = record a { codes = a.codes ++ ns }
joined a nothing = a

abbrev pub merge_ack : AckFields → WireField → Result AckFields Fault
merge_ack a f = and_then (ack_part f) (λ p. Ok (joined a p))

abbrev pub no_fields : AckFields
no_fields = record { seqno = 0; codes = [] }

unfoldable pub ack_of : List ℕ → Result AckFields DecodeError
ack_of bs = decoded merge_ack no_fields bs
