-- The running tally of replies is that of their list. Assumes nothing.
use Rattle.std.proofs.Common.{◌≡◌, ℕ, ◌+◌, ◌%◌, ◌^◌, ◌<◌, Bool, true, false, cond, ◌||◌, eqb, ltb, List, [], ◌∷◌, ◌++◌, map, length, get_or, set, Ok, Err, fold, Result, sym, refl, ap, ◌∙◌, ⊎_elim, arith}
use Rattle.std.specs.List.{range_with_len}
use Rattle.std.proofs.lemmas.List.FromFn.{fill_by_all, get_or-map-range_with_len}
use Rattle.std.proofs.lemmas.List.{append-nil, append_assoc, length_push, length-set, get_or-set_same, get_or-set_other}
use Rattle.std.proofs.lemmas.Bool.{cond-true, cond-false, cases_lt, cases_eq, lt-ltb, le-ltb, eq-eqb, ne_eqb, or_right}
use Rattle.wire.specs.declared.field.Fault.{Fault}
use Rattle.wire.specs.Fields.{WireField}
use Rattle.wire.specs.Read.{and_then}
use Rattle.ack.specs.declared.tally.Replies.{Replies}
use Rattle.ack.specs.Acks.{AckPart, number, replies, nothing, AckFields, ack_part, joined, merge_ack, no_fields}
use Rattle.ack.specs.Failures.{known, failures, has, last_of, nodes_at, failed_nodes}
use Rattle.ack.specs.Reading.{took, merges_ack, no_ack, ack_of_fields}
use Rattle.ack.specs.Tally.{with_failed, placed, noted}

known_push : (rs : List ℕ) (r : ℕ) → known (rs ++ r ∷ []) ≡ known rs ++ cond (ltb (r % 2 ^ 32) 14) (r % 2 ^ 32 ∷ []) []
known_push [] r = refl
known_push (x ∷ rs) r = ap (λ ys. cond (ltb (x % 2 ^ 32) 14) (x % 2 ^ 32 ∷ ys) ys) (known_push rs r) ∙ step (ltb (x % 2 ^ 32) 14) (cond (ltb (r % 2 ^ 32) 14) (r % 2 ^ 32 ∷ []) [])
  where
    step : (b : Bool) (ys : List ℕ) → cond b (x % 2 ^ 32 ∷ (known rs ++ ys)) (known rs ++ ys) ≡ cond b (x % 2 ^ 32 ∷ known rs) (known rs) ++ ys
    step true ys = refl
    step false ys = refl

failures_push : (at : ℕ) (ss : List ℕ) (s : ℕ) → failures at (ss ++ s ∷ []) ≡ failures at ss ++ cond (eqb s 0) [] ((at + length ss) ∷ [])
failures_push at [] s = let e : at ≡ at + 0 = omega arith in ap (λ n. cond (eqb s 0) [] (n ∷ [])) e
failures_push at (x ∷ ss) s =
    let e : at + 1 + length ss ≡ at + length (x ∷ ss) = omega arith in
    ap (λ ys. cond (eqb x 0) ys (at ∷ ys)) (failures_push (at + 1) ss s ∙ ap (λ n. failures (at + 1) ss ++ cond (eqb s 0) [] (n ∷ [])) e)
    ∙ step (eqb x 0) (cond (eqb s 0) [] ((at + length (x ∷ ss)) ∷ []))
  where
    step : (b : Bool) (ys : List ℕ) → cond b (failures (at + 1) ss ++ ys) (at ∷ (failures (at + 1) ss ++ ys)) ≡ cond b (failures (at + 1) ss) (at ∷ failures (at + 1) ss) ++ ys
    step true ys = refl
    step false ys = refl

last_of_push : (first : ℕ) (xs : List ℕ) (p : ℕ) → last_of first (xs ++ p ∷ []) ≡ p
last_of_push first [] p = refl
last_of_push first (x ∷ xs) p = last_of_push x xs p

or_false : (b : Bool) → (b || false) ≡ b
or_false true = refl
or_false false = refl

has_push : (xs : List ℕ) (p i : ℕ) → has (xs ++ p ∷ []) i ≡ (has xs i || eqb p i)
has_push [] p i = or_false (eqb p i)
has_push (x ∷ xs) p i = ap (λ b. eqb x i || b) (has_push xs p i) ∙ step (eqb x i)
  where
    step : (b : Bool) → (b || (has xs i || eqb p i)) ≡ ((b || has xs i) || eqb p i)
    step true = refl
    step false = refl

module _ (xs : List ℕ) (p : ℕ) where
  at_mark : (k : ℕ) → k < 8 → get_or (map (has xs) (range_with_len 0 8)) k false ≡ has xs k
  at_mark k h = get_or-map-range_with_len (has xs) 0 8 k k false h (omega arith)

  other : (k : ℕ) → (p ≡ k → ⊥) → has xs k ≡ has (xs ++ p ∷ []) k
  other k n = sym (has_push xs p k ∙ ap (λ b. has xs k || b) (ne_eqb p k n) ∙ or_false (has xs k))

  marks_push : map (has (xs ++ p ∷ [])) (range_with_len 0 8) ≡ cond (ltb p 8) (set (map (has xs) (range_with_len 0 8)) p true) (map (has xs) (range_with_len 0 8))
  marks_push =
      ⊎_elim
      (λ lt. sym (cond-true (ltb p 8) _ _ (lt-ltb p 8 lt) ∙ fill_by_all (has (xs ++ p ∷ [])) (set (map (has xs) (range_with_len 0 8)) p true) 8 false (length-set (map (has xs) (range_with_len 0 8)) p true) (λ k h. inside lt k h)))
      (λ ge. sym (cond-false (ltb p 8) _ _ (le-ltb p 8 ge) ∙ fill_by_all (has (xs ++ p ∷ [])) (map (has xs) (range_with_len 0 8)) 8 false refl (λ k h. at_mark k h ∙ other k (λ e. omega arith))))
      (cases_lt p 8)
    where
      inside : p < 8 → (k : ℕ) → k < 8 → get_or (set (map (has xs) (range_with_len 0 8)) p true) k false ≡ has (xs ++ p ∷ []) k
      inside lt k h =
          ⊎_elim
          (λ e. ap (λ j. get_or (set (map (has xs) (range_with_len 0 8)) p true) j false) (sym e) ∙ get_or-set_same (map (has xs) (range_with_len 0 8)) p true false lt ∙ sym (has_push xs p k ∙ or_right (has xs k) (eqb p k) (eq-eqb p k e)))
          (λ n. get_or-set_other (map (has xs) (range_with_len 0 8)) p k true false (λ e. n (sym e)) ∙ at_mark k h ∙ other k n)
          (cases_eq p k)

  nodes_at_push : nodes_at (xs ++ p ∷ []) ≡ with_failed (nodes_at xs) p
  nodes_at_push i = record { positions = marks_push i; count = length_push xs p i; highest = last_of_push 0 xs p i }

-- the tally of those statuses
abbrev of_statuses : List ℕ → Replies
of_statuses ss = record { known = length ss; failed = nodes_at (failures 0 ss) }

of_statuses_push : (ss : List ℕ) (s : ℕ) → of_statuses (ss ++ s ∷ []) ≡ placed (of_statuses ss) s
of_statuses_push ss s i = record { known = length_push ss s i; failed = (ap nodes_at (failures_push 0 ss s) ∙ step (eqb s 0)) i }
  where
    e : 0 + length ss ≡ length ss
    e = omega arith

    step : (b : Bool) → nodes_at (failures 0 ss ++ cond b [] ((0 + length ss) ∷ [])) ≡ cond b (nodes_at (failures 0 ss)) (with_failed (nodes_at (failures 0 ss)) (length ss))
    step true = ap nodes_at (append-nil (failures 0 ss))
    step false = nodes_at_push (failures 0 ss) (0 + length ss) ∙ ap (with_failed (nodes_at (failures 0 ss))) e

-- the tally of those codes
abbrev tallied : List ℕ → Replies
tallied cs = of_statuses (known cs)

tallied_push : (cs : List ℕ) (n : ℕ) → tallied (cs ++ n ∷ []) ≡ noted (tallied cs) n
tallied_push cs n = ap of_statuses (known_push cs n) ∙ step (ltb (n % 2 ^ 32) 14)
  where
    step : (b : Bool) → of_statuses (known cs ++ cond b (n % 2 ^ 32 ∷ []) []) ≡ cond b (placed (tallied cs) (n % 2 ^ 32)) (tallied cs)
    step true = of_statuses_push (known cs) (n % 2 ^ 32)
    step false = ap of_statuses (append-nil (known cs))

tallied_all : (cs ns : List ℕ) → tallied (cs ++ ns) ≡ fold noted (tallied cs) ns
tallied_all cs [] = ap tallied (append-nil cs)
tallied_all cs (n ∷ ns) =
    ap tallied (sym (append_assoc cs (n ∷ []) ns)) ∙ tallied_all (cs ++ n ∷ []) ns ∙ ap (λ t. fold noted t ns) (tallied_push cs n)

took_held : (a : AckFields) (p : AckPart) → took (ack_of_fields a) p ≡ ack_of_fields (joined a p)
unfolding ack_of_fields failed_nodes
took_held a (number n) = refl
took_held a (replies ns) = ap (λ t. record { seqno = a.seqno; replies = t }) (sym (tallied_all a.codes ns))
took_held a nothing = refl

pub held_merge : (a : AckFields) (f : WireField) → merges_ack (ack_of_fields a) f ≡ and_then (merge_ack a f) (λ t. Ok (ack_of_fields t))
held_merge a f = step (ack_part f)
  where
    step : (r : Result AckPart Fault) → and_then r (λ p. Ok (took (ack_of_fields a) p)) ≡ and_then (and_then r (λ p. Ok (joined a p))) (λ t. Ok (ack_of_fields t))
    step (Ok p) = ap Ok (took_held a p)
    step (Err e) = refl

pub held_none : ack_of_fields no_fields ≡ no_ack
unfolding ack_of_fields failed_nodes
held_none = refl
