-- No more positions are marked as failed than are counted. Assumes nothing.
use Rattle.std.proofs.Common.{◌≡◌, ℕ, zero, suc, ◌+◌, ◌-◌, ◌^◌, ◌<◌, ◌≤◌, Bool, true, false, cond, ◌||◌, eqb, List, [], ◌∷◌, map, length, Ok, Err, Result, refl, ap, subst, arith}
use Rattle.std.specs.List.{count_by, range_with_len}
use Rattle.std.proofs.lemmas.List.Sums.{sum_by-cons}
use Rattle.std.proofs.lemmas.Bool.{cond-false, eqb-true, ne_eqb}
use Rattle.wire.specs.declared.field.DecodeError.{DecodeError}
use Rattle.wire.specs.Read.{and_then}
use Rattle.ack.specs.declared.ack.Verdict.{Verdict}
use Rattle.ack.specs.declared.ack.Verdict.TheVariants.{Failed, HeartBeat, UnknownSeqno, Packet}
use Rattle.ack.specs.declared.tally.FailedNodes.{FailedNodes}
use Rattle.ack.specs.Acks.{AckFields, ack_of}
use Rattle.ack.specs.Failures.{known, failures, has, failed_nodes, IsTallied}
use Rattle.ack.specs.Verdicts.{verdict_of, judged, verdict_on}

abbrev marked : List Bool → ℕ
marked bs = count_by (λ b. b) bs

more : (b : Bool) (bs : List Bool) → marked (b ∷ bs) ≡ cond b 1 0 + marked bs
more b bs = sum_by-cons (λ (x : Bool). cond x 1 0) b bs

one : (a b : Bool) → cond (a || b) 1 0 ≤ cond a 1 0 + cond b 1 0
one true b = omega arith
one false b = omega arith

either : (f g : ℕ → Bool) (ps : List ℕ) → marked (map (λ p. f p || g p) ps) ≤ marked (map f ps) + marked (map g ps)
either f g [] = omega arith
either f g (p ∷ ps) =
    let o = one (f p) (g p) in
    let r = either f g ps in
    omega (arith, o, r, more (f p || g p) (map (λ p. f p || g p) ps), more (f p) (map f ps), more (g p) (map g ps))

-- a number is one of those of a range once at most
below : (x a n : ℕ) → x < a → marked (map (λ p. eqb x p) (range_with_len a n)) ≤ 0
below x a zero l = omega arith
below x a (suc n) l =
    let here : ◌≡◌ {A = ℕ} (cond (eqb x a) 1 0) 0 = cond-false (eqb x a) 1 0 (ne_eqb x a (λ e. omega (arith, e, l))) in
    let rest = below x (a + 1) n (omega (arith, l)) in
    omega (arith, here, rest, more (eqb x a) (map (λ p. eqb x p) (range_with_len (a + 1) n)))

at_most : (x a n : ℕ) (b : Bool) → eqb x a ≡ b → marked (map (λ p. eqb x p) (range_with_len (a + 1) n)) ≤ 1 → cond b 1 0 + marked (map (λ p. eqb x p) (range_with_len (a + 1) n)) ≤ 1
at_most x a n true e r = let is = eqb-true x a e in let rest = below x (a + 1) n (omega (arith, is)) in omega (arith, rest)
at_most x a n false e r = omega (arith, r)

once : (x a n : ℕ) → marked (map (λ p. eqb x p) (range_with_len a n)) ≤ 1
once x a zero = omega arith
once x a (suc n) =
    let r = at_most x a n (eqb x a) refl (once x (a + 1) n) in
    omega (arith, r, more (eqb x a) (map (λ p. eqb x p) (range_with_len (a + 1) n)))

none : (a n : ℕ) → marked (map (has []) (range_with_len a n)) ≤ 0
none a zero = omega arith
none a (suc n) = let rest = none (a + 1) n in omega (arith, rest, more false (map (has []) (range_with_len (a + 1) n)))

counted : (xs : List ℕ) (a n : ℕ) → marked (map (has xs) (range_with_len a n)) ≤ length xs
counted [] a n = none a n
counted (x ∷ xs) a n =
    let both = either (λ p. eqb x p) (has xs) (range_with_len a n) in
    let first = once x a n in
    let others = counted xs a n in
    omega (arith, both, first, others)

pub failed_tallied : (codes : List ℕ) → IsTallied (failed_nodes codes)
unfolding failed_nodes
failed_tallied codes = counted (failures 0 (known codes)) 0 8

failed_same : (f g : FailedNodes) → ◌≡◌ {A = Result Verdict DecodeError} (Ok (Failed g)) (Ok (Failed f)) → g ≡ f
failed_same f g e = cc

-- those of a verdict
by_number : (a b : Bool) (n : ℕ) (f : FailedNodes) → ◌≡◌ {A = Result Verdict DecodeError} (Ok (cond a HeartBeat (cond b UnknownSeqno (Packet n)))) (Ok (Failed f)) → ⊥
by_number true b n f e = let z : ◌≡◌ {A = ℕ} 0 1 = cc in omega arith
by_number false true n f e = let z : ◌≡◌ {A = ℕ} 0 1 = cc in omega arith
by_number false false n f e = let z : ◌≡◌ {A = ℕ} 0 1 = cc in omega arith

by_verdict : (b : Bool) (n : ℕ) (g f : FailedNodes) → IsTallied g
    → ◌≡◌ {A = Result Verdict DecodeError} (Ok (cond b (cond (eqb n (2 ^ 64 - 1)) HeartBeat (cond (eqb n (2 ^ 64 - 2)) UnknownSeqno (Packet n))) (Failed g))) (Ok (Failed f)) → IsTallied f
by_verdict true n g f c e = absurd (by_number (eqb n (2 ^ 64 - 1)) (eqb n (2 ^ 64 - 2)) n f e)
by_verdict false n g f c e = subst IsTallied (failed_same f g e) c

by_read : (r : Result AckFields DecodeError) (f : FailedNodes) → and_then r (λ a. Ok (judged a)) ≡ Ok (Failed f) → IsTallied f
by_read (Ok a) f e = by_verdict (eqb (failed_nodes a.codes).count 0) a.seqno (failed_nodes a.codes) f (failed_tallied a.codes) e
by_read (Err x) f e = absurd (let z : ◌≡◌ {A = ℕ} 0 1 = cc in omega arith)

pub verdict_tallied : (bs : List ℕ) (f : FailedNodes) → verdict_on bs ≡ Ok (Failed f) → IsTallied f
unfolding verdict_on
verdict_tallied bs f e = by_read (ack_of bs) f e
