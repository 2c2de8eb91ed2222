-- The positions that failed, and the numbers of a packed part. Assumes nothing.
use Rattle.std.proofs.Common.{◌≡◌, ℕ, zero, suc, ◌+◌, ◌-◌, ◌*◌, ◌^◌, ◌<◌, ◌≤◌, Bool, true, false, cond, not, ◌||◌, eqb, ltb, List, [], ◌∷◌, length, get_or, drop, Ok, Err, Result, sym, refl, ap, ◌∙◌, ⊎_elim, arith}
use Rattle.std.proofs.lemmas.List.{append_assoc, drop-drop, nil_from_length}
use Rattle.std.proofs.lemmas.Bool.{cond-false, cond_both, eq-eqb, ne_eqb, eqb-true, or_cases, or_left, or_right, both_ways, not-false}
use Rattle.wire.specs.declared.field.Fault.{Fault}
use Rattle.wire.specs.declared.field.Fault.TheVariants as fault
use Rattle.wire.specs.Read.{and_then, varint_from, varint_at}
use Rattle.ack.specs.Failures.{known, failures, has, last_of, failed_nodes}
use Rattle.ack.specs.Laws.{PackedVarints, RepliesJoin, FailedPositions, HighestPosition, Passing}
use Rattle.ack.specs.Packed.{numbers_from, numbers_of}

-- none before the first
before : (ss : List ℕ) (at p : ℕ) → p < at → has (failures at ss) p ≡ false
before [] at p h = refl
before (s ∷ ss) at p h =
    let i = before ss (at + 1) p (omega arith) in
    let n : eqb at p ≡ false = ne_eqb at p (λ e. omega arith) in
    cond_both (eqb s 0) (failures (at + 1) ss) (at ∷ failures (at + 1) ss) (λ fs. has fs p ≡ false) (λ _. i) (λ _. ap (λ b. b || has (failures (at + 1) ss) p) n ∙ i)

position_from : (ss : List ℕ) (at k p : ℕ) → at + k ≡ p → has (failures at ss) p ≡ not (eqb (get_or ss k 0) 0)
position_from [] at k p e = refl
position_from (s ∷ ss) at zero p e = step (eqb s 0)
  where
    here : eqb at p ≡ true
    here = eq-eqb at p (omega arith)

    step : (b : Bool) → has (cond b (failures (at + 1) ss) (at ∷ failures (at + 1) ss)) p ≡ not b
    step true = before ss (at + 1) p (omega arith)
    step false = or_left (eqb at p) (has (failures (at + 1) ss) p) here
position_from (s ∷ ss) at (suc k) p e = step (eqb s 0) (position_from ss (at + 1) k p (omega arith))
  where
    there : eqb at p ≡ false
    there = ne_eqb at p (λ q. omega arith)

    step : (b : Bool) → has (failures (at + 1) ss) p ≡ not (eqb (get_or ss k 0) 0) → has (cond b (failures (at + 1) ss) (at ∷ failures (at + 1) ss)) p ≡ not (eqb (get_or ss k 0) 0)
    step true i = i
    step false i = ap (λ c. c || has (failures (at + 1) ss) p) there ∙ i

pub positions_failed : FailedPositions
positions_failed ss k = position_from ss 0 k k (omega arith)

above : (ss : List ℕ) (at d : ℕ) → d ≤ at → d ≤ last_of d (failures at ss)
above [] at d h = omega arith
above (s ∷ ss) at d h =
    cond_both (eqb s 0) (failures (at + 1) ss) (at ∷ failures (at + 1) ss) (λ fs. d ≤ last_of d fs)
    (λ _. above ss (at + 1) d (omega arith))
    (λ _. let i = above ss (at + 1) at (omega arith) in omega arith)

highest_from : (ss : List ℕ) (at d p : ℕ) → has (failures at ss) p ≡ true → p ≤ last_of d (failures at ss)
highest_from [] at d p h = absurd (both_ways false refl h)
highest_from (s ∷ ss) at d p h = step (eqb s 0) (highest_from ss (at + 1)) h
  where
    step : (b : Bool) → ((e q : ℕ) → has (failures (at + 1) ss) q ≡ true → q ≤ last_of e (failures (at + 1) ss)) → has (cond b (failures (at + 1) ss) (at ∷ failures (at + 1) ss)) p ≡ true → p ≤ last_of d (cond b (failures (at + 1) ss) (at ∷ failures (at + 1) ss))
    step true i g = i d p g
    step false i g =
        ⊎_elim
        (λ e. let q = eqb-true at p e in let u = above ss (at + 1) at (omega arith) in omega arith)
        (λ e. i at p e)
        (or_cases (eqb at p) (has (failures (at + 1) ss) p) g)

last_is_one : (xs : List ℕ) (d : ℕ) → (length xs ≡ 0 → ⊥) → has xs (last_of d xs) ≡ true
last_is_one [] d h = absurd (h refl)
last_is_one (x ∷ []) d h = or_left (eqb x x) false (eq-eqb x x refl)
last_is_one (x ∷ (y ∷ ys)) d h = or_right (eqb x (last_of y ys)) (has (y ∷ ys) (last_of y ys)) (last_is_one (y ∷ ys) x (λ e. omega arith))

pub highest_failed : HighestPosition
unfolding failed_nodes
highest_failed codes = (λ p h. highest_from (known codes) 0 0 p h, λ h. last_is_one (failures 0 (known codes)) 0 h)

pub passing : Passing
unfolding failed_nodes
passing codes e p =
    let none = nil_from_length (failures 0 (known codes)) e in
    let q : false ≡ not (eqb (get_or (known codes) p 0) 0) = ap (λ fs. has fs p) (sym none) ∙ positions_failed (known codes) p in
    eqb-true _ 0 (not-false _ (sym q))

pub replies_join : RepliesJoin
replies_join a ms ns = ap (λ cs. record { seqno = a.seqno; codes = cs }) (append_assoc a.codes ms ns)

-- a varint and the place past it, and then the numbers from there on
abbrev then_rest : List ℕ → Result (ℕ × ℕ) Fault → Result (List ℕ) Fault
then_rest full r = and_then r (λ x. and_then (numbers_from 0 0 (drop x.1 full)) (λ ns. Ok (x.0 ∷ ns)))

-- one octet of it, where the same holds from the next on
octet : (bs : List ℕ) (k low at b : ℕ) (full : List ℕ) → bs ≡ drop (at + 1) full
    → numbers_from (k + 7) (low + (b - 128) * 2 ^ k) bs ≡ then_rest full (varint_from (k + 7) (low + (b - 128) * 2 ^ k) (at + 1) bs)
    → numbers_from k low (b ∷ bs) ≡ then_rest full (varint_from k low at (b ∷ bs))
octet bs k low at b full e on = step (ltb b 128) (ltb (low + b * 2 ^ k) (2 ^ 64)) (ltb k 63)
  where
    step : (small fits more : Bool)
        → cond small (cond fits (and_then (numbers_from 0 0 bs) (λ ns. Ok ((low + b * 2 ^ k) ∷ ns))) (Err fault.Varint)) (cond more (numbers_from (k + 7) (low + (b - 128) * 2 ^ k) bs) (Err fault.Varint))
        ≡ then_rest full (cond small (cond fits (Ok (low + b * 2 ^ k, at + 1)) (Err fault.Varint)) (cond more (varint_from (k + 7) (low + (b - 128) * 2 ^ k) (at + 1) bs) (Err fault.Varint)))
    step true true more = ap (λ xs. and_then (numbers_from 0 0 xs) (λ ns. Ok ((low + b * 2 ^ k) ∷ ns))) e
    step true false more = refl
    step false fits true = on
    step false fits false = refl

shift : (b : ℕ) (bs : List ℕ) (at : ℕ) (full : List ℕ) → b ∷ bs ≡ drop at full → bs ≡ drop (at + 1) full
shift b bs at full e = ap (drop 1) e ∙ drop-drop 1 at full

varint_first : (bs : List ℕ) (k low at b : ℕ) (full : List ℕ) → b ∷ bs ≡ drop at full → numbers_from k low (b ∷ bs) ≡ then_rest full (varint_from k low at (b ∷ bs))
varint_first [] k low at b full e =
    octet [] k low at b full (shift b [] at full e) (cond-false (eqb (k + 7) 0) (Ok []) (Err fault.End) (ne_eqb (k + 7) 0 (λ z. omega arith)))
varint_first (c ∷ cs) k low at b full e =
    let f = shift b (c ∷ cs) at full e in
    octet (c ∷ cs) k low at b full f (varint_first cs (k + 7) (low + (b - 128) * 2 ^ k) (at + 1) c full f)

pub packed_varints : PackedVarints
unfolding numbers_of varint_at
packed_varints b bs = varint_first bs 0 0 0 b (b ∷ bs) refl
