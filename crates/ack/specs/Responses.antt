-- BlockOpResponseProto: the status of a response. Assumes nothing.
use Rattle.std.specs.Prelude.{ℕ, ◌%◌, ◌^◌, Bool, false, cond, List, Some, None, Ok, Err, Option, Result, ◌==◌}
use Rattle.wire.specs.declared.field.Fault.{Fault}
use Rattle.wire.specs.declared.field.Fault.TheVariants as fault
use Rattle.wire.specs.declared.field.DecodeError.{DecodeError}
use Rattle.wire.specs.Fields.{WireField, varint, fixed64, part, fixed32}
use Rattle.wire.specs.Read.{decoded}
use Rattle.ack.specs.declared.response.BlockOpResponse.{BlockOpResponse}

-- the status is tag 1, a varint of which the low 32 bits count; the last one counts. Other tags are stepped over
abbrev pub merge_status : BlockOpResponse → WireField → Result BlockOpResponse Fault
merge_status r (varint tag n) = Ok (cond (tag == 1) (record { status = Some (n % 2 ^ 32) }) r)
merge_status r (fixed64 tag n) = cond (tag == 1) (Err fault.WireType) (Ok r)
merge_status r (part tag bs) = cond (tag == 1) (Err fault.WireType) (Ok r)
merge_status r (fixed32 tag n) = cond (tag == 1) (Err fault.WireType) (Ok r)

abbrev pub no_status : BlockOpResponse
no_status = record { status = None }

abbrev pub response_of : List ℕ → Result BlockOpResponse DecodeError
response_of bs = decoded merge_status no_status bs

-- SUCCESS is 0
abbrev pub is_success : Option ℕ → Bool
is_success None = false
is_success (Some status) = status == 0
