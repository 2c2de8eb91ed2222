-- What is known of a call that is not refused. Assumes nothing.
use Rattle.std.proofs.Common.{◌≡◌, ◌+◌, ◌<◌, ◌≤◌, Bool, true, false, cond, ◌&&◌, eqb, ltb, leb, Some, None, Option, refl, sym}
use Rattle.std.proofs.lemmas.Bool.{eqb-true, leb-true, ltb-true, and_parts}
use Rattle.std.proofs.lemmas.Option.{none-some}
use Rattle.writer.specs.declared.admit.Call.{Call}
use Rattle.writer.specs.declared.admit.Call.TheVariants as call
use Rattle.writer.specs.declared.admit.Lengths.{Lengths}
use Rattle.writer.specs.declared.cause.Cause.{Cause}
use Rattle.writer.specs.declared.refusal.Refusal.{Refusal}
use Rattle.writer.specs.declared.refusal.Refusal.TheVariants as refusal
use Rattle.writer.specs.declared.state.kind.State.{State}
use Rattle.writer.specs.declared.state.kind.State.TheVariants.{Streaming, Finishing, Broken, Complete, Closed}
use Rattle.writer.specs.declared.terms.Terms.{Terms}
use Rattle.writer.specs.Sizes.{frame_room}
use Rattle.writer.specs.Views.{View}
use Rattle.writer.specs.Finishing.{closing_packets, finish_refusal}
use Rattle.writer.specs.Admits.{by_state, by_room, refusal_for}
use Rattle.writer.specs.Refusals.{or_else}

-- the buffers suffice
pub record Roomy (t : Terms) (l : Lengths) : Type 0 where
  pub store : l.store ≡ t.store_len
  pub frame : frame_room t ≤ l.frame
  pub request : 4096 ≤ l.request
  pub answer : 4096 ≤ l.answer

inner : (t : Terms) (l : Lengths) (e : eqb l.store t.store_len ≡ true) (b : Bool) → (leb (frame_room t) l.frame && (leb 4096 l.request && leb 4096 l.answer)) ≡ b → cond b None (Some refusal.Buffer) ≡ None → Roomy t l
inner t l e true f h =
    let p = and_parts (leb (frame_room t) l.frame) (leb 4096 l.request && leb 4096 l.answer) f in
    let q = and_parts (leb 4096 l.request) (leb 4096 l.answer) p.1 in
    record { store = eqb-true _ _ e; frame = leb-true _ _ p.0; request = leb-true _ _ q.0; answer = leb-true _ _ q.1 }
inner t l e false f h = absurd (none-some refusal.Buffer (sym h))

outer : (t : Terms) (l : Lengths) (b : Bool) → eqb l.store t.store_len ≡ b
    → cond b (cond (leb (frame_room t) l.frame && (leb 4096 l.request && leb 4096 l.answer)) None (Some refusal.Buffer)) (Some refusal.Store) ≡ None → Roomy t l
outer t l true e h = inner t l e _ refl h
outer t l false e h = absurd (none-some refusal.Store (sym h))

roomy : (t : Terms) (l : Lengths) → by_room t l ≡ None → Roomy t l
roomy t l h = outer t l _ refl h

both_none : (a b : Option Refusal) → or_else a b ≡ None → (a ≡ None) × (b ≡ None)
both_none (Some r) b e = absurd (none-some r (sym e))
both_none None b e = (refl, e)

pub fits_state : (v : View) (c : Call) (l : Lengths) → refusal_for v c l ≡ None → by_state v.state c ≡ None
fits_state v c l e = (both_none (by_state v.state c) (by_room v.terms l) e).0

pub fits_room : (v : View) (c : Call) (l : Lengths) → refusal_for v c l ≡ None → Roomy v.terms l
fits_room v c l e = roomy v.terms l (both_none (by_state v.state c) (by_room v.terms l) e).1

pub streams_finish : (s : State) → by_state s call.Finish ≡ None → s ≡ Streaming
streams_finish Streaming e = refl
streams_finish Finishing e = absurd (none-some _ (sym e))
streams_finish (Broken cause f) e = absurd (none-some _ (sym e))
streams_finish Complete e = absurd (none-some _ (sym e))
streams_finish Closed e = absurd (none-some _ (sym e))

pub record IsBroken (s : State) : Type 0 where
  pub cause : Cause
  pub finished : Bool
  pub is : s ≡ Broken cause finished

-- a store of another length is refused by every call
pub refused_store : (v : View) (c : Call) (l : Lengths) → (l.store ≡ v.terms.store_len → ⊥) → refusal_for v c l ≡ None → ⊥
refused_store v c l other e = other (fits_room v c l e).store

places_left : (b : Bool) → cond b None (Some refusal.Places) ≡ None → b ≡ true
places_left true e = refl
places_left false e = absurd (none-some refusal.Places (sym e))

pub finishes_fit : (v : View) (l : Lengths) → finish_refusal v l ≡ None → (refusal_for v call.Finish l ≡ None) × (v.count + closing_packets v < v.terms.slots)
finishes_fit v l e =
    let both = both_none (refusal_for v call.Finish l) (cond (ltb (v.count + closing_packets v) v.terms.slots) None (Some refusal.Places)) e in
    (both.0, ltb-true _ _ (places_left (ltb (v.count + closing_packets v) v.terms.slots) both.1))
