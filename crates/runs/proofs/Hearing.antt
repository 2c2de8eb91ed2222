-- The step of heed, for whatever came. Assumes nothing.
use Rattle.std.proofs.Common.{◌≡◌, ℕ, ◌-◌, ◌^◌, ◌<◌, ◌≤◌, true, false, cond, ◌&&◌, eqb, ◌≢◌, List, [], length, Some, None, Ok, Err, Option, Result, sym, refl, ◌∙◌, subst, arith}
use Rattle.std.proofs.lemmas.Option.{none-some}
use Rattle.std.proofs.lemmas.Bool.{cond-true, cond-false, cond_both, eq-eqb, eqb-true, ltb-true, and_parts, and_from, lt-ltb, false≢true}
use Rattle.wire.specs.declared.field.DecodeError.{DecodeError}
use Rattle.wire.specs.Read.{and_then}
use Rattle.ack.specs.Acks.{AckFields, ack_of}
use Rattle.ack.specs.declared.ack.Verdict.TheVariants.{HeartBeat, UnknownSeqno, Packet}
use Rattle.ack.specs.Verdicts.{judged, number_if, verdict_on, passes}
use Rattle.ack.specs.Failures.{failed_nodes}
use Rattle.chain.specs.declared.link.Link as Link
use Rattle.chain.specs.Acts.{Came, nothing, lost, answer}
use Rattle.chain.specs.Meaning.{Seen, Passes, Nexts}
use Rattle.sending.specs.Asking.{heard_in, heard_of}
use Rattle.writer.specs.declared.admit.Call.TheVariants as call
use Rattle.writer.specs.declared.admit.Lengths.{Lengths}
use Rattle.writer.specs.declared.cause.Cause.TheVariants as cause
use Rattle.writer.specs.declared.heed.Decision.{Decision}
use Rattle.writer.specs.declared.heed.Decision.TheVariants as decision
use Rattle.writer.specs.declared.heed.Heeded.{Heeded}
use Rattle.writer.specs.declared.refusal.Refusal.{Refusal}
use Rattle.writer.specs.declared.refusal.Refusal.TheVariants as refusal
use Rattle.writer.specs.declared.state.kind.State.{State}
use Rattle.writer.specs.declared.state.kind.State.TheVariants.{Streaming, Finishing, Broken, Complete, Closed}
use Rattle.writer.specs.Admits.{refusal_for, by_room, by_state}
use Rattle.writer.specs.Calls.{Listener}
use Rattle.writer.specs.Heeding.{awaits, on_packet, on_verdict, on_heard, answer_of, view_after, Heeds}
use Rattle.writer.specs.Refusals.{or_else}
use Rattle.writer.specs.States.{ended, listens}
use Rattle.writer.specs.Views.{View}
use Rattle.runs.specs.History.{History, numbers, heard}
use Rattle.runs.proofs.Heeds.{same, other, first_small, confirm_keeps, complete_keeps}
use Rattle.runs.proofs.Invariant.{Fit, Holds}
use Rattle.runs.proofs.Means.{MeansChain}
use Rattle.runs.proofs.Keeps.{Keeps}
use Rattle.runs.proofs.States.{breaks, closes, stays}

module _ (h : History) (v : View) (store : List ℕ) (x y : Seen) (whole : listens v.state ≡ true) (fit : Fit v (length store)) (holds : Holds h v store x) where
  -- what the writer decides on fits what the pipeline did
  abbrev Follows : Decision → Type 0
  Follows d = Keeps (heard h x.pending y.pending (answer_of d)) v (view_after v d) store y

  -- the pipeline did nothing, and no packet's number is answered
  quiet : (d : Decision) → y ≡ x → numbers (answer_of d) ≡ [] → Keeps h v (view_after v d) store x → Follows d
  quiet d = same h v store x fit holds y (answer_of d) (view_after v d)

  unawaited : (n : ℕ) → awaits v n ≡ false → 0 < v.count → n ≢ v.first
  unawaited n e some is = false≢true (sym e ∙ and_from _ _ (lt-ltb 0 v.count some) (eq-eqb n v.first is))

  if_packet : (n : ℕ) → Passes (Some n) x.pending x y → Follows (on_packet v n)
  if_packet n d =
      cond_both (awaits v n) _ _ Follows
      (λ e. let both = and_parts _ _ e in let some = ltb-true 0 v.count both.0 in let is = eqb-true n v.first both.1 in
      cond_both (ended v.state && eqb v.count 1) _ _ Follows
      (λ l. let parts = and_parts _ _ l in complete_keeps h v store x y whole fit holds n some is d parts.0 (eqb-true v.count 1 parts.1))
      (λ l. confirm_keeps h v store x y whole fit holds n some is d l))
      (λ e. quiet (decision.Close refusal.Unexpected) (other h v store x y whole fit holds n (unawaited n e) d) refl (closes h v store x holds))

  -- no held packet has a number that is kept for another meaning
  special : (n : ℕ) → 2 ^ 64 - 2 ≤ n → Passes (Some n) x.pending x y → y ≡ x
  special n high d = other h v store x y whole fit holds n (λ some is. let small = first_small h v store x y whole fit holds some in absurd (omega (arith, small, high, is))) d

  if_number : (n : ℕ) → Passes (Some n) x.pending x y → Follows (on_verdict v (cond (eqb n (2 ^ 64 - 1)) HeartBeat (cond (eqb n (2 ^ 64 - 2)) UnknownSeqno (Packet n))))
  if_number n d =
      cond_both (eqb n (2 ^ 64 - 1)) _ _ (λ z. Follows (on_verdict v z))
      (λ e. let is = eqb-true n (2 ^ 64 - 1) e in quiet decision.Beat (special n (omega (arith, is)) d) refl (stays h v store x holds))
      (λ e. cond_both (eqb n (2 ^ 64 - 2)) _ _ (λ z. Follows (on_verdict v z))
      (λ f. let is = eqb-true n (2 ^ 64 - 2) f in quiet (decision.Close refusal.UnknownSeqno) (special n (omega (arith, is)) d) refl (closes h v store x holds))
      (λ f. if_packet n d))

  if_acked : (a : AckFields) → Passes (number_if (Ok a)) x.pending x y → Follows (on_verdict v (judged a))
  if_acked a d =
      let failed = failed_nodes a.codes in
      cond_both (eqb failed.count 0) _ _ (λ z. Follows (on_verdict v z))
      (λ e. if_number a.seqno (subst (λ (n : Option ℕ). Passes n x.pending x y) (cond-true (eqb failed.count 0) _ _ e) d))
      (λ e. quiet (decision.Break (cause.Replies failed)) (subst (λ (n : Option ℕ). Passes n x.pending x y) (cond-false (eqb failed.count 0) _ _ e) d) refl (breaks h v (cause.Replies failed) store x whole holds))

  if_read : (r : Result AckFields DecodeError) → Passes (number_if r) x.pending x y → Follows (on_heard v (heard_of (and_then r (λ a. Ok (judged a)))))
  if_read (Ok a) d = if_acked a d
  if_read (Err e) d = quiet (decision.Break (cause.Decoding e)) d refl (breaks h v (cause.Decoding e) store x whole holds)

  if_came : (came : Came) → Nexts came x y → Follows (on_heard v (heard_in came))
  unfolding verdict_on passes
  if_came nothing d = quiet decision.Wait d refl (stays h v store x holds)
  if_came lost d = quiet (decision.Break cause.Link) d refl (breaks h v cause.Link store x whole holds)
  if_came (answer message) d = if_read (ack_of message) d

module _ {C : Type 0} (acts : Link.Ghosts C) (seen : C → Seen) (means : MeansChain acts seen) where
  pub heard_keeps : (h : History) (store : List ℕ) (s t : Listener C) (r : Result Heeded Refusal) → listens s.view.state ≡ true
      → Fit s.view (length store) → Holds h s.view store (seen s.link) → Heeds acts s r t
      → Keeps (heard h (seen s.link).pending (seen t.link).pending r) s.view t.view store (seen t.link)
  heard_keeps h store s t r whole fit holds d =
      let v = s.view in
      let k = if_came h v store (seen s.link) (seen t.link) whole fit holds d.came (means.answering s.link t.link d.came d.acted) in
      let is = cond-true (listens v.state) (on_heard v (heard_in d.came)) decision.Wait whole in
      rw (d.result, d.writer, is) k

-- which states listen
pub listens_heed : (v : View) (l : Lengths) → refusal_for v call.Heed l ≡ None → listens v.state ≡ true
listens_heed v l e = in_state v.state (by_room v.terms l) e
  where
    in_state : (s : State) (o : Option Refusal) → or_else (by_state s call.Heed) o ≡ None → listens s ≡ true
    in_state Streaming o e = refl
    in_state Finishing o e = refl
    in_state (Broken cause finished) o e = absurd (none-some _ (sym e))
    in_state Complete o e = absurd (none-some _ (sym e))
    in_state Closed o e = absurd (none-some _ (sym e))
