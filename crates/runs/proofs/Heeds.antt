-- The step of heed: what an answer does to the pipeline and what the writer makes of it fit together. Assumes nothing.
use Rattle.std.proofs.Common.{◌≡◌, ℕ, zero, suc, ◌+◌, ◌-◌, ◌^◌, ◌<◌, ◌≤◌, Bool, true, false, ◌&&◌, eqb, ◌≢◌, List, [], ◌∷◌, ◌++◌, length, Some, Ok, Result, sym, refl, ap, ◌∙◌, subst, ⊎_elim, arith, length-append, append_assoc, ◌%◌, not-suc-le-zero, add-one, sub-one}
use Rattle.std.proofs.lemmas.Bool.{cond-true, cond-false, eq-eqb, ne_eqb, cases_lt}
use Rattle.std.proofs.lemmas.List.{append-nil, map-append, replicate_more}
use Rattle.packet.specs.Frame.{Packet}
use Rattle.held.specs.Slots.{below, packets, bytes_of, packet_of, size_at, slot_of, last_at}
use Rattle.held.proofs.Packets.{packets_first, packets_none, slot_long}
use Rattle.chain.specs.Meaning.{Seen, Passes, Confirms}
use Rattle.writer.specs.declared.heed.Heeded.{Heeded}
use Rattle.writer.specs.declared.heed.Heeded.TheVariants as heeded
use Rattle.writer.specs.declared.refusal.Refusal.{Refusal}
use Rattle.writer.specs.declared.state.kind.State.{State}
use Rattle.writer.specs.declared.state.kind.State.TheVariants.{Streaming, Finishing, Broken, Complete, Closed}
use Rattle.writer.specs.Sizes.{capacity}
use Rattle.writer.specs.States.{ended, listens, last_ones}
use Rattle.writer.specs.Views.{View, with_state, without_first, held_in, filling_in}
use Rattle.runs.specs.History.{History, dropped, numbers, heard}
use Rattle.runs.specs.Law.{seqnos, lasts}
use Rattle.runs.proofs.Invariant.{Fit, Sofar, Holds}
use Rattle.runs.proofs.Keeps.{Keeps}
use Rattle.runs.proofs.States.{so_far, is_open, whole_as, flowing, flows_as, confirmed_as}

-- where nothing has left the pending packets and no number was answered, the history is as it was
pub dropped_none : (ps : List Packet) → dropped ps ps ≡ []
dropped_none [] = refl
dropped_none (p ∷ ps) = cond-false (eqb (suc (length ps)) (length ps)) _ _ (ne_eqb _ _ (λ e. omega (arith, e)))

pub dropped_first : (p : Packet) (ps : List Packet) → dropped (p ∷ ps) ps ≡ p ∷ []
dropped_first p ps = cond-true (eqb (length ps) (length ps)) _ _ (eq-eqb _ _ refl)

pub heard_none : (h : History) (ps : List Packet) (r : Result Heeded Refusal) → numbers r ≡ [] → heard h ps ps r ≡ h
heard_none h ps r e = rw (dropped_none ps, e, append-nil h.confirmed, append-nil h.answered) refl

module _ (h : History) (v : View) (store : List ℕ) (x : Seen) (fit : Fit v (length store)) (holds : Holds h v store x) where
  pub same : (y : Seen) (r : Result Heeded Refusal) (w : View) → y ≡ x → numbers r ≡ [] → Keeps h v w store x → Keeps (heard h x.pending y.pending r) v w store y
  same y r w e none k = rw (e, heard_none h x.pending r none) k

-- an answer for another number than the first pending packet's changes nothing
pub passed_by : (n : ℕ) (ps : List Packet) (x y : Seen) → ((p : Packet) (qs : List Packet) → ps ≡ p ∷ qs → n ≢ p.seqno) → Passes (Some n) ps x y → y ≡ x
passed_by n [] x y other d = d
passed_by n (p ∷ ps) x y other d = d.1 (other p ps refl)

pub confirms : (n : ℕ) (p : Packet) (ps qs : List Packet) (x y : Seen) → ps ≡ p ∷ qs → n ≡ p.seqno → Passes (Some n) ps x y → Confirms p qs x y
confirms n p ps qs x y e is d = (subst (λ (zs : List Packet). Passes (Some n) zs x y) e d).0 is

-- the first held packet
module _ (v : View) (store : List ℕ) (o : ℕ) where
  abbrev pub front : Packet
  front = packet_of v.terms.size.chunk o v.first (last_at (ended v.state) (v.count - 1)) (slot_of (capacity v.terms) v.terms.slots store v.first (size_at v.terms.slots v.sizes v.first))

  abbrev pub behind : List Packet
  behind = packets v.terms.size.chunk (capacity v.terms) v.terms.slots v.sizes store (ended v.state) (v.count - 1) (v.first + 1) (o + size_at v.terms.slots v.sizes v.first)

  pub held_first : 0 < v.count → held_in v store o ≡ front ∷ behind
  held_first some = packets_first v.terms.size.chunk (capacity v.terms) v.terms.slots v.sizes store (ended v.state) v.count v.first o some

  pub held_none : v.count ≤ 0 → held_in v store o ≡ []
  held_none none = packets_none v.terms.size.chunk (capacity v.terms) v.terms.slots v.sizes store (ended v.state) v.count v.first o none

not_last : (e : Bool) (c : ℕ) → 0 < c → (e && eqb c 1) ≡ false → last_at e (c - 1) ≡ false
not_last e zero some isnt = absurd (not-suc-le-zero some)
not_last true (suc zero) some isnt = isnt
not_last false (suc zero) some isnt = refl
not_last e (suc (suc c)) some isnt = simp sub-one

some_ones : (s : State) → last_ones s ≤ 1
some_ones Streaming = omega arith
some_ones Finishing = omega arith
some_ones (Broken cause true) = omega arith
some_ones (Broken cause false) = omega arith
some_ones Complete = omega arith
some_ones Closed = omega arith

head_number : List Packet → ℕ
head_number [] = 0
head_number (p ∷ ps) = p.seqno

module _ (h : History) (v : View) (store : List ℕ) (x y : Seen) (whole : listens v.state ≡ true) (fit : Fit v (length store)) (holds : Holds h v store x) where
  pending_is : x.pending ≡ held_in v store (length x.kept)
  pending_is = flowing v.state x.pending (held_in v store (length x.kept)) whole holds.flows

  -- the first pending packet is the first held one, if there is one
  first_pending : (p : Packet) (qs : List Packet) → x.pending ≡ p ∷ qs → (0 < v.count) × (p.seqno ≡ v.first)
  unfolding head_number
  first_pending p qs e =
      let both : p ∷ qs ≡ held_in v store (length x.kept) = sym e ∙ pending_is in
      ⊎_elim
      (λ (some : 0 < v.count). (some, ap head_number (both ∙ held_first v store (length x.kept) some)))
      (λ (none : v.count ≤ 0). absurd (let l = ap length (both ∙ held_none v store (length x.kept) none) in omega (arith, l)))
      (cases_lt 0 v.count)

  -- an answer that is not for the first held packet
  pub other : (n : ℕ) → (0 < v.count → n ≢ v.first) → Passes (Some n) x.pending x y → y ≡ x
  other n ne d = passed_by n x.pending x y (λ p qs e is. let f = first_pending p qs e in ne f.0 (is ∙ f.1)) d

  pub first_small : 0 < v.count → v.first < 2 ^ 64 - 2
  first_small some = omega (arith, fit.numbers, fit.limit, some_ones v.state)

  -- the first held packet is confirmed: the kept bytes and the history have it, and the writer and the pipeline do without
  module _ (n : ℕ) (some : 0 < v.count) (is : n ≡ v.first) (d : Passes (Some n) x.pending x y) where
    confirmed_first : Confirms (front v store (length x.kept)) (behind v store (length x.kept)) x y
    confirmed_first = confirms n (front v store (length x.kept)) x.pending (behind v store (length x.kept)) x y (pending_is ∙ held_first v store (length x.kept) some) is d

    long : length (slot_of (capacity v.terms) v.terms.slots store v.first (size_at v.terms.slots v.sizes v.first)) ≡ size_at v.terms.slots v.sizes v.first
    long = slot_long (capacity v.terms) v.terms.slots store v.first (size_at v.terms.slots v.sizes v.first) (omega (arith, fit.slots)) (fit.small (v.first % v.terms.slots)) fit.store

    kept_is : y.kept ≡ x.kept ++ slot_of (capacity v.terms) v.terms.slots store v.first (size_at v.terms.slots v.sizes v.first)
    kept_is = ap (λ (z : Seen). z.kept) confirmed_first.is

    pending_then : y.pending ≡ behind v store (length x.kept)
    pending_then = ap (λ (z : Seen). z.pending) confirmed_first.is

    held_then : held_in (without_first v) store (length y.kept) ≡ behind v store (length x.kept)
    held_then =
        let l = ap length kept_is ∙ length-append x.kept _ in
        ap (packets v.terms.size.chunk (capacity v.terms) v.terms.slots v.sizes store (ended v.state) (v.count - 1) (v.first + 1)) (omega (arith, l, long))

    whole_then : y.kept ++ (bytes_of (held_in (without_first v) store (length y.kept)) ++ filling_in (without_first v) store) ≡ h.initial ++ h.accepted
    whole_then =
        let at : v.first + 1 + (v.count - 1) ≡ v.first + v.count = omega (arith, some) in
        let was = subst (λ (ps : List Packet). x.kept ++ (bytes_of ps ++ filling_in v store) ≡ h.initial ++ h.accepted) (held_first v store (length x.kept) some) holds.whole in
        rw (held_then, kept_is, at, ← was) (simp append_assoc)

    dropped_then : dropped x.pending y.pending ≡ front v store (length x.kept) ∷ []
    dropped_then = rw (pending_is ∙ held_first v store (length x.kept) some, pending_then) (dropped_first _ _)

    seqnos_then : seqnos (h.confirmed ++ dropped x.pending y.pending) ≡ seqnos h.confirmed ++ v.first ∷ []
    seqnos_then = map-append (λ (q : Packet). q.seqno) h.confirmed (dropped x.pending y.pending) ∙ ap (λ (ps : List Packet). seqnos h.confirmed ++ seqnos ps) dropped_then

    lasts_then : lasts (h.confirmed ++ dropped x.pending y.pending) ≡ lasts h.confirmed ++ last_at (ended v.state) (v.count - 1) ∷ []
    lasts_then = map-append (λ (q : Packet). q.last) h.confirmed (dropped x.pending y.pending) ∙ ap (λ (ps : List Packet). lasts h.confirmed ++ lasts ps) dropped_then

    numbers_then : seqnos h.confirmed ≡ below v.first → seqnos (h.confirmed ++ dropped x.pending y.pending) ≡ below (v.first + 1)
    numbers_then e = seqnos_then ∙ ap (λ (l : List ℕ). l ++ v.first ∷ []) e ∙ sym (ap below (add-one v.first))

    told_then : (m : ℕ) → m ≡ n → h.answered ++ m ∷ [] ≡ seqnos (h.confirmed ++ dropped x.pending y.pending)
    told_then m e = sym (seqnos_then ∙ rw (e, is, holds.told) refl)

    so_far_now : Sofar v.first h.confirmed
    so_far_now = so_far v.state v.first v.count h.confirmed whole holds.confirmed

    pub confirm_keeps : (ended v.state && eqb v.count 1) ≡ false → Keeps (heard h x.pending y.pending (Ok (heeded.Confirmed n))) v (without_first v) store y
    confirm_keeps isnt = record {
      holds = record {
        store_len = holds.store_len;
        whole = whole_then;
        len = holds.len;
        flows = flows_as v.state y.pending _ (pending_then ∙ sym held_then);
        told = told_then n refl;
        confirmed = confirmed_as v.state (v.first + 1) (v.count - 1) _ whole (numbers_then so_far_now.0, lasts_then ∙ rw (so_far_now.1, not_last (ended v.state) v.count some isnt) (replicate_more v.first false));
      };
      stamp = refl;
      terms = refl;
      opens = λ o. o;
    }

    pub complete_keeps : ended v.state ≡ true → v.count ≡ 1 → Keeps (heard h x.pending y.pending (Ok (heeded.Complete n))) v (with_state Complete (without_first v)) store y
    complete_keeps e one = record {
      holds = record {
        store_len = holds.store_len;
        whole = whole_as (heard h x.pending y.pending (Ok (heeded.Complete n))) (without_first v) Complete store y whole_then;
        len = holds.len;
        flows = tt;
        told = told_then n refl;
        confirmed = record {
          last = v.first;
          ends = add-one v.first;
          none = omega (arith, one);
          numbers = numbers_then so_far_now.0;
          flags = lasts_then ∙ rw (so_far_now.1, e, one) refl;
        };
      };
      stamp = refl;
      terms = refl;
      opens = λ o. is_open v.state whole;
    }
