-- Which calls are refused before anything is done, and by what. Assumes nothing.
use Rattle.std.specs.Prelude.{ℕ, if◌then◌else◌, ◌&&◌, List, length, Some, None, Option, ◌==◌, nat_le}
use Rattle.writer.specs.declared.admit.Call.{Call}
use Rattle.writer.specs.declared.admit.Call.TheVariants as call
use Rattle.writer.specs.declared.admit.Lengths.{Lengths}
use Rattle.writer.specs.declared.refusal.Refusal.{Refusal}
use Rattle.writer.specs.declared.refusal.Refusal.TheVariants as refusal
use Rattle.writer.specs.declared.state.kind.State.{State}
use Rattle.writer.specs.declared.state.kind.State.TheVariants.{Streaming, Finishing, Broken, Complete, Closed}
use Rattle.writer.specs.declared.terms.Terms.{Terms}
use Rattle.writer.specs.Refusals.{or_else}
use Rattle.writer.specs.Sizes.{frame_room}
use Rattle.writer.specs.Views.{View}

-- of a broken pipeline only a recovery is taken
abbrev pub if_broken : Call → Option Refusal
if_broken call.Write = Some refusal.Broken
if_broken call.Heed = Some refusal.Broken
if_broken call.Beat = Some refusal.Broken
if_broken call.Finish = Some refusal.Broken
if_broken call.Recover = None

-- of a finished block only answers are heeded
abbrev pub if_finishing : Call → Option Refusal
if_finishing call.Write = Some refusal.Finished
if_finishing call.Heed = None
if_finishing call.Beat = Some refusal.Finished
if_finishing call.Finish = Some refusal.Finished
if_finishing call.Recover = Some refusal.Whole

abbrev pub if_streaming : Call → Option Refusal
if_streaming call.Write = None
if_streaming call.Heed = None
if_streaming call.Beat = None
if_streaming call.Finish = None
if_streaming call.Recover = Some refusal.Whole

abbrev pub by_state : State → Call → Option Refusal
by_state Streaming c = if_streaming c
by_state Finishing c = if_finishing c
by_state (Broken cause finished) c = if_broken c
by_state Complete c = Some refusal.Complete
by_state Closed c = Some refusal.Closed

-- the store has the length that it was opened with; the frame buffer holds every frame, and the others 4,096 octets
abbrev pub by_room : Terms → Lengths → Option Refusal
by_room t l =
    if l.store == t.store_len then
    (if nat_le (frame_room t) l.frame && (nat_le 4096 l.request && nat_le 4096 l.answer) then None
    else Some refusal.Buffer)
    else Some refusal.Store

abbrev pub refusal_for : View → Call → Lengths → Option Refusal
refusal_for v c l = or_else (by_state v.state c) (by_room v.terms l)

abbrev pub lengths_of : List ℕ → List ℕ → List ℕ → List ℕ → Lengths
lengths_of store frame request answer =
    record {
      store = length store;
      frame = length frame;
      request = length request;
      answer = length answer;
    }
