-- The end of a block, and a heartbeat, keep bytes and packets in order. Assumes nothing.
use Rattle.std.proofs.Common.{◌≡◌, ℕ, ◌+◌, ◌-◌, ◌^◌, ◌<◌, Bool, true, false, cond, eqb, List, [], length, Ok, Err, Result, refl, ap, arith}
use Rattle.std.proofs.lemmas.Bool.{eqb-false}
use Rattle.packet.specs.Frame.{octets_of}
use Rattle.chain.specs.declared.link.Link as Link
use Rattle.chain.specs.Meaning.{Seen}
use Rattle.writer.specs.declared.beat.Beat.{Beat}
use Rattle.writer.specs.declared.cause.Cause.TheVariants.{Put}
use Rattle.writer.specs.declared.finish.Finished.{Finished}
use Rattle.writer.specs.declared.refusal.Refusal.{Refusal}
use Rattle.writer.specs.declared.state.kind.State.TheVariants.{Streaming, Finishing, Broken}
use Rattle.writer.specs.Calls.{Streamer}
use Rattle.writer.specs.States.{last_ones, listens}
use Rattle.writer.specs.Views.{View, next_of, with_state, with_held, beaten_at}
use Rattle.writer.specs.Writing.{handed_over, PutsOutgoing}
use Rattle.writer.specs.Finishing.{closing_packets, Ends, EndsIf, ThenEnds, held_unsent, Finishes}
use Rattle.writer.specs.Beating.{heartbeat, is_due, beat_by, BeatsIf, Beats}
use Rattle.runs.specs.History.{History}
use Rattle.runs.proofs.Invariant.{Fit, Holds}
use Rattle.runs.proofs.Fits.{fit_held}
use Rattle.runs.proofs.Hands.{handed_keeps, hands_keep, holds_held, sofar}
use Rattle.runs.proofs.Taken.{carried, pending_same}
use Rattle.runs.proofs.Means.{MeansChain}
use Rattle.runs.proofs.Keeps.{Keeps, keeps_then}
use Rattle.runs.proofs.States.{stays, breaks, is_open}

-- when a heartbeat was last put is no matter of bytes and packets
beaten_keep : (h : History) (v : View) (store : List ℕ) (x : Seen) (time : ℕ) → Holds h v store x → Keeps h v (beaten_at time v) store x
beaten_keep h v store x time holds = record {
  holds = record { store_len = holds.store_len; whole = holds.whole; len = holds.len; flows = holds.flows; told = holds.told; confirmed = holds.confirmed };
  stamp = refl;
  terms = refl;
  opens = λ o. o;
}

module _ {C : Type 0} (acts : Link.Ghosts C) (seen : C → Seen) (means : MeansChain acts seen) where
  -- from one place to another, which is told by an equation
  arrives : (h : History) (v : View) (p q : Streamer C) → q ≡ p → Keeps h v p.view p.store (seen p.link) → Keeps h v q.view q.store (seen q.link)
  arrives h v p q is k = rw is k

  -- the last packet, of a block that has no others to hand over
  ends_keep : (h : History) (p : Streamer C) (r : Finished) (q : Streamer C) → p.view.state ≡ Streaming → Fit p.view (length p.store) → Holds h p.view p.store (seen p.link)
      → Ends acts p r q → Keeps h p.view q.view q.store (seen q.link)
  ends_keep h p r q streams f holds d =
      arrives h p.view _ q d.is (handed_keeps h p.view p.store (seen p.link) f holds streams Finishing (seen q.link) d.sent refl (means.putting p.link q.link _ d.sent d.acted))

  -- the packet being filled, and then the last one: where the first is lost, both are held and none is put
  then_ends : (h : History) (p : Streamer C) (r : Finished) (q : Streamer C) (sent : Bool) (c : C) → p.view.state ≡ Streaming → Fit p.view (length p.store) → Holds h p.view p.store (seen p.link)
      → p.view.count + 1 < p.view.terms.slots → 0 < p.view.filling → PutsOutgoing acts p sent c → ThenEnds acts sent p c r q → Keeps h p.view q.view q.store (seen q.link)
  then_ends h p r q true c streams f holds room some act d =
      let one = hands_keep acts seen means h p c true streams f holds act in
      let fits = fit_held p.view p.view.state (length p.store) f room (omega (arith, some)) in
      keeps_then one (ends_keep h (handed_over p true c) r q streams fits one.holds d)
  then_ends h p r q false c streams f holds room some act d =
      let lost = Put (next_of p.view) in
      let none : last_ones p.view.state ≡ 0 = ap last_ones streams in
      let same = ap (λ (z : Seen). z.kept) (means.putting p.link c _ false act) in
      let one = holds_held h p.view p.store (seen p.link) f holds (Broken lost false) (seen c) same tt (sofar h p.view p.store (seen p.link) f holds streams) in
      let fits = fit_held p.view (Broken lost false) (length p.store) f room (omega (arith, some, none)) in
      let two = holds_held h (with_state (Broken lost false) (with_held p.view)) p.store (seen c) fits one (Broken lost true) (seen c) refl tt one.confirmed in
      arrives h p.view (held_unsent p c) q d.1 (record { holds = two; stamp = refl; terms = refl; opens = λ o. is_open p.view.state (ap listens streams) })

  ends_if : (h : History) (p : Streamer C) (r : Finished) (q : Streamer C) (b : Bool) → eqb p.view.filling 0 ≡ b → p.view.state ≡ Streaming → p.view.count + cond b 1 2 < p.view.terms.slots
      → Fit p.view (length p.store) → Holds h p.view p.store (seen p.link) → EndsIf acts b p r q → Keeps h p.view q.view q.store (seen q.link)
  ends_if h p r q true e streams room f holds d = ends_keep h p r q streams f holds d
  ends_if h p r q false e streams room f holds d =
      let some : 0 < p.view.filling = let n = eqb-false _ _ e in omega (arith, n) in
      then_ends h p r q d.sent d.between streams f holds (omega (arith, room)) some d.acted d.follows

  pub finished_keeps : (h : History) (p q : Streamer C) (r : Result Finished Refusal) → (p.view.state ≡ Streaming) × (p.view.count + closing_packets p.view < p.view.terms.slots)
      → Fit p.view (length p.store) → Holds h p.view p.store (seen p.link) → Finishes acts p r q → Keeps h p.view q.view q.store (seen q.link)
  finished_keeps h p q (Ok r) goes f holds d = ends_if h p r q (eqb p.view.filling 0) refl goes.0 goes.1 f holds d
  finished_keeps h p q (Err e) goes f holds d = absurd d

  -- a heartbeat is not pending where it is taken, and breaks the pipeline where it is lost
  beat_keeps : (h : History) (p : Streamer C) (time : ℕ) (sent : Bool) (c : C) → p.view.state ≡ Streaming → Holds h p.view p.store (seen p.link)
      → acts.puts p.link (octets_of (heartbeat p.view)) sent c → Keeps h p.view (beat_by acts p time sent c).view p.store (seen c)
  beat_keeps h p time true c streams holds act =
      let frame = carried p.view.terms 0 (2 ^ 64 - 1) false [] (omega arith) (omega arith) (omega arith) in
      let same = pending_same (heartbeat p.view) (seen p.link) (seen c) frame refl (means.putting p.link c _ true act) in
      rw same (beaten_keep h p.view p.store (seen p.link) time holds)
  beat_keeps h p time false c streams holds act =
      let beaten = beaten_keep h p.view p.store (seen p.link) time holds in
      let lost = breaks h (beaten_at time p.view) (Put (2 ^ 64 - 1)) p.store (seen p.link) (ap listens streams) beaten.holds in
      rw (means.putting p.link c _ false act) (keeps_then beaten lost)

  beats_if : (h : History) (p q : Streamer C) (time : ℕ) (r : Result Beat Refusal) (b : Bool) → p.view.state ≡ Streaming → Holds h p.view p.store (seen p.link)
      → BeatsIf acts b time p r q → Keeps h p.view q.view q.store (seen q.link)
  beats_if h p q time r true streams holds d = arrives h p.view (beat_by acts p time d.sent q.link) q d.is (beat_keeps h p time d.sent q.link streams holds d.acted)
  beats_if h p q time r false streams holds d = arrives h p.view p q d.1 (stays h p.view p.store (seen p.link) holds)

  pub beaten_keeps : (h : History) (p q : Streamer C) (time : ℕ) (r : Result Beat Refusal) → p.view.state ≡ Streaming
      → Holds h p.view p.store (seen p.link) → Beats acts time p r q → Keeps h p.view q.view q.store (seen q.link)
  beaten_keeps h p q time r streams holds d = beats_if h p q time r (is_due p.view time) streams holds d
