-- A number's digits, one by one. Assumes nothing.
use Rattle.std.proofs.Common.{◌≡◌, ℕ, ◌+◌, ◌-◌, ◌*◌, ◌<◌, ◌≤◌, true, false, List, [], ◌∷◌, length, get_or, drop, Ok, sym, refl, ap, ◌∙◌, arith}
use Rattle.std.specs.Char.{is_ascii_digit}
use Rattle.std.proofs.lemmas.List.{at_drop_more, at_drop_all}
use Rattle.std.proofs.lemmas.Bool.{cond-true, cond-false, eq-eqb, ne_eqb, le-leb, lt-leb}
use Rattle.readings.specs.declared.number.LineFault.TheVariants.{DigitExpected, AboveLimit}
use Rattle.readings.specs.Line.{digits, decimal_from, fault_at, number_of}

pub digits_more : (xs : List ℕ) (i : ℕ) → i < length xs → is_ascii_digit (get_or xs i 0) ≡ true → digits (drop i xs) ≡ get_or xs i 0 ∷ digits (drop (i + 1) xs)
digits_more xs i h t = at_drop_more digits xs i 0 h ∙ cond-true _ _ _ t

pub digits_none : (xs : List ℕ) (i : ℕ) → i < length xs → is_ascii_digit (get_or xs i 0) ≡ false → digits (drop i xs) ≡ []
digits_none xs i h t = at_drop_more digits xs i 0 h ∙ cond-false _ _ _ t

pub digits_end : (xs : List ℕ) (i : ℕ) → length xs ≤ i → digits (drop i xs) ≡ []
digits_end xs i h = at_drop_all digits xs i h

-- more digits make no number smaller
pub decimal_ge : (n : ℕ) (ds : List ℕ) → n ≤ decimal_from n ds
decimal_ge n [] = omega arith
decimal_ge n (b ∷ ds) = let h = decimal_ge (10 * n + (b - 48)) ds in omega arith

-- the digits from i on complete those from `at` on, which so far are n
pub record Scanned (xs : List ℕ) (limit at i n : ℕ) : Type 0 where
  pub value : decimal_from n (digits (drop i xs)) ≡ decimal_from 0 (digits (drop at xs))
  pub place : i + length (digits (drop i xs)) ≡ at + length (digits (drop at xs))
  pub low : n ≤ limit
  pub past : at ≤ i
  pub within : i ≤ length xs

pub begins : (xs : List ℕ) (limit at : ℕ) → at ≤ length xs → Scanned xs limit at at 0
begins xs limit at h = record { value = refl; place = refl; low = omega arith; past = omega arith; within = h }

module _ {xs : List ℕ} {limit at i n : ℕ} (s : Scanned xs limit at i n) where
  -- one more digit
  module _ (h : i < length xs) (t : is_ascii_digit (get_or xs i 0) ≡ true) where
    next_value : decimal_from (10 * n + (get_or xs i 0 - 48)) (digits (drop (i + 1) xs)) ≡ decimal_from 0 (digits (drop at xs))
    next_value = sym (ap (decimal_from n) (digits_more xs i h t)) ∙ s.value

    next_place : (i + 1) + length (digits (drop (i + 1) xs)) ≡ at + length (digits (drop at xs))
    next_place = omega (arith, ap length (digits_more xs i h t), s.place)

    pub goes : (d : ℕ) → d ≡ get_or xs i 0 - 48 → 10 * n + d ≤ limit → Scanned xs limit at (i + 1) (10 * n + d)
    goes d e l = record {
      value = ap (λ z. decimal_from (10 * n + z) (digits (drop (i + 1) xs))) e ∙ next_value;
      place = next_place;
      low = l;
      past = omega (arith, s.past);
      within = omega arith;
    }

    pub above : (d : ℕ) → d ≡ get_or xs i 0 - 48 → limit < 10 * n + d → fault_at at (AboveLimit limit) ≡ number_of (digits (drop at xs)) limit at
    above d e l =
        let some : 0 < length (digits (drop at xs)) = omega (arith, next_place, s.past) in
        let big : limit < decimal_from 0 (digits (drop at xs)) = omega (arith, e, next_value, decimal_ge (10 * n + (get_or xs i 0 - 48)) (digits (drop (i + 1) xs))) in
        sym (cond-false _ _ _ (ne_eqb (length (digits (drop at xs))) 0 (omega arith)) ∙ cond-false _ _ _ (lt-leb _ _ big))

  -- no more digits
  module _ (e : digits (drop i xs) ≡ []) where
    pub none : i ≡ at → fault_at {A = ℕ × ℕ} at DigitExpected ≡ number_of (digits (drop at xs)) limit at
    none a = sym (cond-true _ _ _ (eq-eqb (length (digits (drop at xs))) 0 (omega (arith, s.place, ap length e))))

    pub ends : (i ≡ at → ⊥) → Ok (n, i) ≡ number_of (digits (drop at xs)) limit at
    ends a =
        let v : n ≡ decimal_from 0 (digits (drop at xs)) = sym (ap (decimal_from n) e) ∙ s.value in
        let p : i ≡ at + length (digits (drop at xs)) = omega (arith, s.place, ap length e) in
        (λ j. Ok (v j, p j))
        ∙ sym (cond-false _ _ _ (ne_eqb (length (digits (drop at xs))) 0 (omega (arith, s.past))) ∙ cond-true _ _ _ (le-leb (decimal_from 0 (digits (drop at xs))) limit (omega (arith, v, s.low))))
