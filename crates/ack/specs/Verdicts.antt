-- What a pipeline's answer means. Assumes nothing.
use Rattle.std.specs.Prelude.{ℕ, ◌-◌, ◌^◌, cond, List, Some, None, Ok, Err, Option, Result, ◌==◌}
use Rattle.wire.specs.declared.field.DecodeError.{DecodeError}
use Rattle.wire.specs.Read.{and_then}
use Rattle.ack.specs.declared.tally.FailedNodes.{FailedNodes}
use Rattle.ack.specs.declared.ack.Verdict.{Verdict}
use Rattle.ack.specs.declared.ack.Verdict.TheVariants.{Failed, HeartBeat, UnknownSeqno, Packet}
use Rattle.ack.specs.Failures.{failed_nodes}
use Rattle.ack.specs.Acks.{AckFields, ack_of}

-- an answer passes where no node failed. Then its number says what it answers: -1 a heartbeat, -2 nothing that the node knows, else that packet
abbrev pub verdict_of : ℕ → FailedNodes → Verdict
verdict_of seqno failed =
    cond (failed.count == 0)
    (cond (seqno == 2 ^ 64 - 1) HeartBeat (cond (seqno == 2 ^ 64 - 2) UnknownSeqno (Packet seqno)))
    (Failed failed)

abbrev pub judged : AckFields → Verdict
judged a = verdict_of a.seqno (failed_nodes a.codes)

unfoldable pub verdict_on : List ℕ → Result Verdict DecodeError
verdict_on bs = and_then (ack_of bs) (λ a. Ok (judged a))

-- the number of an answer that passes
abbrev pub number_if : Result AckFields DecodeError → Option ℕ
number_if (Ok a) = cond ((failed_nodes a.codes).count == 0) (Some a.seqno) None
number_if (Err e) = None

unfoldable pub passes : List ℕ → Option ℕ
passes bs = number_if (ack_of bs)
