-- A call that is not refused: in which state it finds the writer, and that the store is the writer's own. Assumes nothing.
use Rattle.std.proofs.Common.{◌≡◌, ◌≢◌, ◌+◌, ◌<◌, Some, None, Err, Option, Result, refl, sym, subst, ◌∙◌}
use Rattle.writer.specs.declared.admit.Call.TheVariants as call
use Rattle.writer.specs.declared.admit.Lengths.{Lengths}
use Rattle.writer.specs.declared.state.kind.State.{State}
use Rattle.writer.specs.declared.state.kind.State.TheVariants.{Streaming, Finishing, Broken, Complete, Closed}
use Rattle.writer.specs.Admits.{by_state, refusal_for}
use Rattle.writer.specs.declared.refusal.Refusal.{Refusal}
use Rattle.writer.specs.Calls.{UnlessRefused}
use Rattle.writer.specs.Finishing.{closing_packets, finish_refusal}
use Rattle.writer.specs.Views.{View}
use Rattle.writer.proofs.Admitted.{fits_state, finishes_fit, streams_finish, refused_store}

-- a write, a heartbeat and the block's end are refused in the same states
write_as_finish : (s : State) → by_state s call.Finish ≡ by_state s call.Write
write_as_finish Streaming = refl
write_as_finish Finishing = refl
write_as_finish (Broken cause finished) = refl
write_as_finish Complete = refl
write_as_finish Closed = refl

beat_as_finish : (s : State) → by_state s call.Finish ≡ by_state s call.Beat
beat_as_finish Streaming = refl
beat_as_finish Finishing = refl
beat_as_finish (Broken cause finished) = refl
beat_as_finish Complete = refl
beat_as_finish Closed = refl

pub streams_write : (v : View) (l : Lengths) → refusal_for v call.Write l ≡ None → v.state ≡ Streaming
streams_write v l e = streams_finish v.state (write_as_finish v.state ∙ fits_state v call.Write l e)

pub streams_beat : (v : View) (l : Lengths) → refusal_for v call.Beat l ≡ None → v.state ≡ Streaming
streams_beat v l e = streams_finish v.state (beat_as_finish v.state ∙ fits_state v call.Beat l e)

-- and the closing packets have places
pub streams_end : (v : View) (l : Lengths) → finish_refusal v l ≡ None → (v.state ≡ Streaming) × (v.count + closing_packets v < v.terms.slots)
streams_end v l e = let both = finishes_fit v l e in (streams_finish v.state (fits_state v call.Finish l both.0), both.1)

-- a store of another length is refused
pub refused_store_end : (v : View) (l : Lengths) → l.store ≢ v.terms.store_len → finish_refusal v l ≡ None → ⊥
refused_store_end v l other e = refused_store v call.Finish l other (finishes_fit v l e).0

-- what is true of a call that leaves everything, and of one that acts, is true of every call
pub unless : {S A : Type 0} (P : Result A Refusal → S → Type 0) (o : Option Refusal) (Acts : S → Result A Refusal → S → Type 0) (s : S) (r : Result A Refusal) (t : S)
    → ((e : Refusal) → P (Err e) s) → (o ≡ None → Acts s r t → P r t) → UnlessRefused o Acts s r t → P r t
unless {S} {A} P (Some e) Acts s r t leaves acts d = subst (λ (z : Result A Refusal). P z t) (sym d.0) (subst (P (Err e)) (sym d.1) (leaves e))
unless P None Acts s r t leaves acts d = acts refl d
