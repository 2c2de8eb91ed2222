-- One byte of a varint, as the loop takes it. Assumes nothing.
use Rattle.std.proofs.Common.{◌≡◌, ℕ, ◌+◌, ◌-◌, ◌*◌, ◌%◌, ◌^◌, ◌<◌, ◌≤◌, ltb, ◌⊎◌, List, drop, Ok, sym, ap, ◌∙◌, subst, ⊎_elim, arith, pow_mono}
use lib.Bits.{bit_and, bit_or}
use Rattle.std.proofs.lemmas.Nat.{pow-add, and_mask, or_comm, or_shifted, shl_whole, mul-add-lt}
use Rattle.std.proofs.lemmas.Bool.{cond-true, cond-false, lt-ltb, le-ltb}
use Rattle.wire.specs.Read.{varint_from}
use Rattle.wire.specs.Steps.{More, Whole, step_of}

-- the digit d of at most j bits at place k leaves room in 64 bits
sum_lt : (v d k j : ℕ) → v < 2 ^ k → d < 2 ^ j → v + d * 2 ^ k < 2 ^ (k + j)
sum_lt v d k j hv hd = omega (arith, mul-add-lt d (2 ^ k) v (2 ^ j) hd hv, pow-add 2 k j)

merge : (v d k j : ℕ) → v < 2 ^ k → d < 2 ^ j → j + k ≤ 64 → bit_or v ((d * 2 ^ k) % 2 ^ 64) ≡ v + d * 2 ^ k
merge v d k j hv hd h =
    ap (λ x. bit_or v x) (shl_whole d j k 64 hd h) ∙ or_comm v (d * 2 ^ k) ∙ or_shifted d k v hv ∙ omega arith

-- what the tenth byte may hold
abbrev pub Fit : ℕ → ℕ → Type 0
Fit t b = ((t ≡ 9) × (b ≤ 1)) ⊎ (t ≡ 9 → ⊥)

-- the facts of one turn
pub record VarintTurn (t v b d : ℕ) : Type 0 where
  pub under : t < 10
  pub low : v < 2 ^ (7 * t)
  pub fit : Fit t b
  pub byte : b < 256
  pub digit : d ≡ bit_and b 127

module _ {t v b d : ℕ} (h : VarintTurn t v b d) where
  is_rest : d ≡ b % 128
  is_rest = h.digit ∙ and_mask b 7

  pub joins : bit_or v ((d * 2 ^ (7 * t)) % 2 ^ 64) ≡ v + d * 2 ^ (7 * t)
  joins =
      ⊎_elim
      (λ w. merge v d (7 * t) 1 h.low (omega (arith, is_rest)) (omega arith))
      (λ n. merge v d (7 * t) 7 h.low (omega (arith, is_rest)) (omega (arith, h.under)))
      h.fit

  pub room : v + d * 2 ^ (7 * t) < 2 ^ 64
  room =
      ⊎_elim
      (λ w. let s = sum_lt v d (7 * t) 1 h.low (omega (arith, is_rest)) in let m : 2 ^ (7 * t + 1) ≤ 2 ^ 64 = pow_mono {j = 64} (omega arith) in omega arith)
      (λ n. let s = sum_lt v d (7 * t) 7 h.low (omega (arith, is_rest)) in let m : 2 ^ (7 * t + 7) ≤ 2 ^ 64 = pow_mono {j = 64} (omega (arith, h.under)) in omega arith)
      h.fit

  pub last : b < 128 → Ok (Whole (v + d * 2 ^ (7 * t))) ≡ step_of v t b
  last lt =
      let e : d ≡ b = omega (arith, is_rest) in
      let r : v + b * 2 ^ (7 * t) < 2 ^ 64 = subst (λ x. v + x * 2 ^ (7 * t) < 2 ^ 64) e room in
      ap (λ x. Ok (Whole (v + x * 2 ^ (7 * t)))) e
      ∙ sym (cond-true (ltb b 128) _ _ (lt-ltb b 128 lt) ∙ cond-true (ltb (v + b * 2 ^ (7 * t)) (2 ^ 64)) _ _ (lt-ltb _ _ r))

  pub not_tenth : 128 ≤ b → t < 9
  not_tenth ge = ⊎_elim (λ w. omega arith) (λ n. omega (arith, h.under)) h.fit

  pub goes : 128 ≤ b → Ok (More (v + d * 2 ^ (7 * t)) (t + 1)) ≡ step_of v t b
  goes ge =
      let e : d ≡ b - 128 = omega (arith, is_rest, h.byte) in
      let nine = not_tenth ge in
      ap (λ x. Ok (More (v + x * 2 ^ (7 * t)) (t + 1))) e
      ∙ sym (cond-false (ltb b 128) _ _ (le-ltb b 128 ge) ∙ cond-true (ltb (7 * t) 63) _ _ (lt-ltb _ _ (omega arith)))

  pub grows : v + d * 2 ^ (7 * t) < 2 ^ (7 * (t + 1))
  grows = let s = sum_lt v d (7 * t) 7 h.low (omega (arith, is_rest)) in let k : 7 * (t + 1) ≡ 7 * t + 7 = omega arith in rw k s

-- the first i octets of xs have been read, and the rest leads on to the varint at `at`
pub record Sofar (xs : List ℕ) (at i low turn : ℕ) : Type 0 where
  pub leads : varint_from (7 * turn) low (at + i) (drop i xs) ≡ varint_from 0 0 at xs
