-- What a writer makes of an answer: its state and what was heard decide together. Assumes nothing.
use Rattle.std.specs.Prelude.{◌≡◌, ℕ, Bool, if◌then◌else◌, ◌&&◌, Some, None, Ok, Err, Result, ◌==◌, nat_lt}
use Rattle.ack.specs.declared.ack.Verdict.{Verdict}
use Rattle.ack.specs.declared.ack.Verdict.TheVariants as verdict
use Rattle.chain.specs.declared.link.Link as Link
use Rattle.chain.specs.Acts.{Came}
use Rattle.sending.specs.declared.ask.AskError.TheVariants as ask
use Rattle.sending.specs.Asking.{Heard, heard_in, answer_over}
use Rattle.writer.specs.declared.cause.Cause.TheVariants as cause
use Rattle.writer.specs.declared.heed.Decision.{Decision}
use Rattle.writer.specs.declared.heed.Decision.TheVariants as decision
use Rattle.writer.specs.declared.heed.Heeded.{Heeded}
use Rattle.writer.specs.declared.heed.Heeded.TheVariants as heeded
use Rattle.writer.specs.declared.refusal.Refusal.{Refusal}
use Rattle.writer.specs.declared.refusal.Refusal.TheVariants as refusal
use Rattle.writer.specs.declared.state.kind.State.TheVariants.{Complete, Closed}
use Rattle.writer.specs.Calls.{Listener}
use Rattle.writer.specs.States.{ended, listens}
use Rattle.writer.specs.Views.{View, with_state, without_first, broken_by}

-- the first held packet is the one that is to be confirmed next
abbrev pub awaits : View → ℕ → Bool
awaits v n = nat_lt 0 v.count && n == v.first

-- a packet is confirmed only in its turn; of a finished block the one that is held alone is the last
abbrev pub if_last : View → ℕ → Bool → Decision
if_last v n last =
    if awaits v n then (if last then decision.Complete n else decision.Confirm n)
    else decision.Close refusal.Unexpected

abbrev pub on_packet : View → ℕ → Decision
on_packet v n = if_last v n (ended v.state && v.count == 1)

abbrev pub on_verdict : View → Verdict → Decision
on_verdict v (verdict.Failed nodes) = decision.Break (cause.Replies nodes)
on_verdict v verdict.HeartBeat = decision.Beat
on_verdict v verdict.UnknownSeqno = decision.Close refusal.UnknownSeqno
on_verdict v (verdict.Packet n) = on_packet v n

abbrev pub on_heard : View → Heard → Decision
on_heard v (Ok None) = decision.Wait
on_heard v (Ok (Some x)) = on_verdict v x
on_heard v (Err ask.Lost) = decision.Break cause.Link
on_heard v (Err (ask.Undecodable e)) = decision.Break (cause.Decoding e)

-- only a whole pipeline is listened to
abbrev pub decided : View → Heard → Decision
decided v h = if listens v.state then on_heard v h else decision.Wait

abbrev pub answer_of : Decision → Result Heeded Refusal
answer_of decision.Wait = Ok heeded.Nothing
answer_of decision.Beat = Ok heeded.HeartBeat
answer_of (decision.Break why) = Ok (heeded.Broken why)
answer_of (decision.Close r) = Err r
answer_of (decision.Confirm n) = Ok (heeded.Confirmed n)
answer_of (decision.Complete n) = Ok (heeded.Complete n)

abbrev pub view_after : View → Decision → View
view_after v decision.Wait = v
view_after v decision.Beat = v
view_after v (decision.Break why) = broken_by why v
view_after v (decision.Close r) = with_state Closed v
view_after v (decision.Confirm n) = without_first v
view_after v (decision.Complete n) = with_state Complete (without_first v)

-- the link was asked once; result, writer and buffer are what came of it
pub record Heeds {L : Type 0} (acts : Link.Ghosts L) (s : Listener L) (r : Result Heeded Refusal)
    (t : Listener L) : Type 0 where
  pub came : Came
  pub acted : acts.nexts s.link came t.link
  pub result : r ≡ answer_of (decided s.view (heard_in came))
  pub writer : t.view ≡ view_after s.view (decided s.view (heard_in came))
  pub answer : t.answer ≡ answer_over came s.answer
