-- What the program holds of an answer: its number and a running tally in place of the list of codes. Assumes nothing.
use Rattle.std.specs.Prelude.{ℕ, List, length, Ok, fold, Result}
use Rattle.wire.specs.declared.field.Fault.{Fault}
use Rattle.wire.specs.declared.field.DecodeError.{DecodeError}
use Rattle.wire.specs.Fields.{WireField}
use Rattle.wire.specs.Read.{and_then}
use Rattle.ack.specs.declared.ack.PipelineAck.{PipelineAck}
use Rattle.ack.specs.Acks.{AckPart, number, replies, nothing, AckFields, ack_part, ack_of}
use Rattle.ack.specs.Failures.{known, failed_nodes}
use Rattle.ack.specs.Tally.{no_replies, noted, reply_count}

abbrev pub no_ack : PipelineAck
no_ack = record { seqno = 0; replies = no_replies }

abbrev pub took : PipelineAck → AckPart → PipelineAck
took a (number n) = record a { seqno = n }
took a (replies ns) = record a { replies = fold noted a.replies ns }
took a nothing = a

abbrev pub merges_ack : PipelineAck → WireField → Result PipelineAck Fault
merges_ack a f = and_then (ack_part f) (λ p. Ok (took a p))

abbrev pub ack_size : PipelineAck → ℕ
ack_size a = reply_count a.replies

-- the tally of those codes
unfoldable pub ack_of_fields : AckFields → PipelineAck
ack_of_fields a = record { seqno = a.seqno; replies = record { known = length (known a.codes); failed = failed_nodes a.codes } }

unfoldable pub ack_read : List ℕ → Result PipelineAck DecodeError
ack_read bs = and_then (ack_of bs) (λ a. Ok (ack_of_fields a))
