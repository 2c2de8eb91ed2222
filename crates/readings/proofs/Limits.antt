-- Each number that is read is within its limit. Assumes nothing.
use Rattle.std.proofs.Common.{◌≡◌, ℕ, zero, suc, ◌+◌, ◌-◌, ◌<◌, ◌≤◌, Bool, true, false, cond, eqb, ltb, leb, List, [], ◌∷◌, length, get_or, drop, Ok, Err, Result, sym, refl, ap, ◌∙◌, subst, arith}
use Rattle.std.proofs.lemmas.Bool.{leb-true, ltb-true, false≢true}
use Rattle.std.proofs.lemmas.List.{get_or-drop}
use Rattle.wire.specs.Read.{and_then}
use Rattle.readings.specs.declared.number.LineError.{LineError}
use Rattle.readings.specs.declared.number.LineFault.TheVariants.{DigitExpected, AboveLimit}
use Rattle.readings.specs.declared.number.Slot.{Slot}
use Rattle.readings.specs.Line.{number_of, number_at, mark_at, slot_at, slots_at, digits, decimal_from, fault_at}

-- a number, with the place past it
abbrev Low : ℕ → Result (ℕ × ℕ) LineError → Type 0
Low limit (Ok x) = x.0 ≤ limit
Low limit (Err e) = Unit {0}

number_low : (ds : List ℕ) (limit at : ℕ) → Low limit (number_of ds limit at)
number_low ds limit at = go (eqb (length ds) 0) (leb (decimal_from 0 ds) limit) refl
  where
    go : (a b : Bool) → leb (decimal_from 0 ds) limit ≡ b
        → Low limit (cond a (fault_at at DigitExpected) (cond b (Ok (decimal_from 0 ds, at + length ds)) (fault_at at (AboveLimit limit))))
    go true b e = tt
    go false true e = leb-true (decimal_from 0 ds) limit e
    go false false e = tt

slot_low : (s : Slot) (at : ℕ) (line : List ℕ) → Low s.limit (slot_at s at line)
unfolding number_at slot_at
slot_low s at line = go (number_of (digits (drop at line)) s.limit at) (number_low (digits (drop at line)) s.limit at)
  where
    mark : (n : ℕ) → n ≤ s.limit → (m : Result ℕ LineError) → Low s.limit (and_then m (λ next. Ok (n, next)))
    mark n h (Ok next) = h
    mark n h (Err e) = tt

    go : (r : Result (ℕ × ℕ) LineError) → Low s.limit r → Low s.limit (and_then r (λ x. and_then (mark_at s.then x.1 line) (λ next. Ok (x.0, next))))
    go (Ok x) h = mark x.0 h (mark_at s.then x.1 line)
    go (Err e) h = tt

-- numbers, each within the limit of its slot
abbrev pub Each : List Slot → List ℕ → Type 0
Each [] ns = Unit {0}
Each (s ∷ ss) [] = ⊥
Each (s ∷ ss) (n ∷ ns) = (n ≤ s.limit) × Each ss ns

abbrev AllLow : List Slot → Result (List ℕ) LineError → Type 0
AllLow ss (Ok ns) = Each ss ns
AllLow ss (Err e) = Unit {0}

slots_low : (ss : List Slot) (at : ℕ) (line : List ℕ) → AllLow ss (slots_at ss at line)
slots_low [] at line = tt
slots_low (s ∷ ss) at line = go (λ next. slots_low ss next line) (slot_at s at line) (slot_low s at line)
  where
    rest : (n : ℕ) → n ≤ s.limit → (r : Result (List ℕ) LineError) → AllLow ss r → AllLow (s ∷ ss) (and_then r (λ ns. Ok (n ∷ ns)))
    rest n h (Ok ns) e = (h, e)
    rest n h (Err x) e = tt

    go : ((next : ℕ) → AllLow ss (slots_at ss next line)) → (r : Result (ℕ × ℕ) LineError) → Low s.limit r → AllLow (s ∷ ss) (and_then r (λ x. and_then (slots_at ss x.1 line) (λ ns. Ok (x.0 ∷ ns))))
    go more (Ok x) h = rest x.0 h (slots_at ss x.1 line) (more x.1)
    go more (Err e) h = tt

pub read_low : (ss : List Slot) (at : ℕ) (line ns : List ℕ) → Ok ns ≡ slots_at ss at line → Each ss ns
read_low ss at line ns e = subst (AllLow ss) (sym e) (slots_low ss at line)

-- whether the first n limits are below b
abbrev pub below : ℕ → ℕ → List Slot → Bool
below b zero ss = true
below b (suc n) [] = false
below b (suc n) (s ∷ ss) = cond (ltb s.limit b) (below b n ss) false

front : (b n : ℕ) (ss : List Slot) (ns : List ℕ) → Each ss ns → below b n ss ≡ true → (k : ℕ) → k < n → get_or ns k 0 < b
front b zero ss ns e t k h = absurd (omega arith)
front b (suc n) [] ns e t k h = absurd (false≢true t)
front b (suc n) (s ∷ ss) [] e t k h = absurd e
front b (suc n) (s ∷ ss) (x ∷ ns) e t k h = go (front b n ss ns e.1) (ltb s.limit b) refl t k h
  where
    go : (below b n ss ≡ true → (j : ℕ) → j < n → get_or ns j 0 < b) → (v : Bool) → ltb s.limit b ≡ v → cond v (below b n ss) false ≡ true → (j : ℕ) → j < suc n → get_or (x ∷ ns) j 0 < b
    go more true q u zero i = omega (arith, ltb-true s.limit b q, e.0)
    go more true q u (suc j) i = more u j (omega arith)
    go more false q u j i = absurd (false≢true u)

each_drop : (i : ℕ) (ss : List Slot) (ns : List ℕ) → Each ss ns → Each (drop i ss) (drop i ns)
each_drop zero ss ns e = e
each_drop (suc i) [] ns e = tt
each_drop (suc i) (s ∷ ss) [] e = absurd e
each_drop (suc i) (s ∷ ss) (n ∷ ns) e = each_drop i ss ns e.1

-- the numbers from i on are below b where their limits are
pub ranged : (b i n : ℕ) (ss : List Slot) (ns : List ℕ) → Each ss ns → below b n (drop i ss) ≡ true → (k : ℕ) → i ≤ k → k < i + n → get_or ns k 0 < b
ranged b i n ss ns e t k l h =
    let f = front b n (drop i ss) (drop i ns) (each_drop i ss ns e) t (k - i) (omega arith) in
    let p : i + (k - i) ≡ k = omega arith in
    subst (λ z. z < b) (get_or-drop i ns (k - i) 0 ∙ ap (λ z. get_or ns z 0) p) f
