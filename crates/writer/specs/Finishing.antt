-- The block's end: the packet being filled goes out if it has data, and then the empty last packet. Assumes nothing.
use Rattle.std.specs.Prelude.{◌≡◌, ℕ, ◌+◌, Bool, true, false, if◌then◌else◌, not, Some, None, Ok, Err, Option, Result, ◌==◌, nat_lt}
use Rattle.packet.specs.Frame.{over}
use Rattle.chain.specs.declared.link.Link as Link
use Rattle.writer.specs.declared.admit.Call.TheVariants as call
use Rattle.writer.specs.declared.admit.Lengths.{Lengths}
use Rattle.writer.specs.declared.cause.Cause.TheVariants.{Put}
use Rattle.writer.specs.declared.finish.Finished.{Finished}
use Rattle.writer.specs.declared.refusal.Refusal.{Refusal}
use Rattle.writer.specs.declared.refusal.Refusal.TheVariants as refusal
use Rattle.writer.specs.declared.state.kind.State.TheVariants.{Finishing, Broken}
use Rattle.writer.specs.Admits.{refusal_for}
use Rattle.writer.specs.Calls.{Streamer}
use Rattle.writer.specs.Refusals.{or_else}
use Rattle.writer.specs.Views.{View, next_of, with_state, with_held, outgoing}
use Rattle.writer.specs.Writing.{handed_over, PutsOutgoing}

-- how many packets the end of the block needs places for
abbrev pub closing_packets : View → ℕ
closing_packets v = if v.filling == 0 then 1 else 2

abbrev pub finish_refusal : View → Lengths → Option Refusal
finish_refusal v l =
    or_else (refusal_for v call.Finish l)
    (if nat_lt (v.count + closing_packets v) v.terms.slots then None else Some refusal.Places)

-- the last packet, held and not sent, since the one of that number was lost
abbrev pub unsent_last : ℕ → View → View
unsent_last n v = with_held (with_state (Broken (Put n) true) v)

module _ {L : Type 0} where
  abbrev pub ending : Streamer L → Streamer L
  ending p = record p { view = with_state Finishing p.view }

  -- the packet before it was lost: the last one is held and not put
  abbrev pub held_unsent : Streamer L → L → Streamer L
  held_unsent p c = record p {
    view = unsent_last (next_of p.view) (with_held p.view);
    frame = over (outgoing p.view p.store) p.frame;
    link = c;
  }

module _ {L : Type 0} (acts : Link.Ghosts L) where
  -- the last packet is held and put
  pub record Ends (p : Streamer L) (r : Finished) (q : Streamer L) : Type 0 where
    pub sent : Bool
    pub acted : PutsOutgoing acts (ending p) sent q.link
    pub result : r.put_lost ≡ not sent
    pub is : q ≡ handed_over (ending p) sent q.link

  abbrev pub ThenEnds : Bool → Streamer L → L → Finished → Streamer L → Type 0
  ThenEnds true p c r q = Ends (handed_over p true c) r q
  ThenEnds false p c r q = (r.put_lost ≡ true) × (q ≡ held_unsent p c)

  -- the packet being filled is handed over first
  pub record Empties (p : Streamer L) (r : Finished) (q : Streamer L) : Type 0 where
    pub sent : Bool
    pub between : L
    pub acted : PutsOutgoing acts p sent between
    pub follows : ThenEnds sent p between r q

  abbrev pub EndsIf : Bool → Streamer L → Finished → Streamer L → Type 0
  EndsIf true p r q = Ends p r q
  EndsIf false p r q = Empties p r q

  abbrev pub Finishes : Streamer L → Result Finished Refusal → Streamer L → Type 0
  Finishes p (Ok r) q = EndsIf (p.view.filling == 0) p r q
  Finishes p (Err e) q = ⊥
