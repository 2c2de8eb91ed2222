-- A varint as it is written: one octet more. Assumes nothing.
use Rattle.std.proofs.Common.{◌≡◌, ℕ, suc, ◌+◌, ◌-◌, ◌*◌, ◌/◌, ◌%◌, ◌^◌, ◌<◌, ◌≤◌, ltb, List, [], ◌∷◌, ◌++◌, length, take, set, sym, refl, ap, ◌∙◌, subst, ⊎_elim, div-lt_iff_lt-mul, arith, length-set, pow_mono}
use lib.Bits.{bit_and, bit_or}
use Rattle.std.proofs.lemmas.Nat.{pow-add, and_mask, or_comm, or_shifted}
use Rattle.std.proofs.lemmas.List.{append_assoc, take_more_set}
use Rattle.std.proofs.lemmas.Bool.{cond-false, le-ltb, cases_lt}
use Rattle.wire.specs.Fields.{groups, varint_bytes}

-- the first i octets of xs are written, and those of n are left
pub record Writing (value : ℕ) (xs : List ℕ) (i n : ℕ) : Type 0 where
  pub room : length xs ≡ 10
  pub early : i < 10
  pub small : n < 2 ^ (7 * (10 - i))
  pub is : take i xs ++ groups (10 - i) n ≡ varint_bytes value

pub writing : (value : ℕ) (xs : List ℕ) → length xs ≡ 10 → value < 2 ^ 64 → Writing value xs 0 value
unfolding varint_bytes
writing value xs e h = record { room = e; early = omega arith; small = omega arith; is = refl }

-- an octet with its highest bit set
pub marked : (n : ℕ) → bit_or (bit_and n 127) 128 ≡ n % 128 + 128
marked n =
    let low = and_mask n 7 in
    ap (λ x. bit_or x 128) low ∙ or_comm (n % 128) 128 ∙ or_shifted 1 7 (n % 128) (omega arith) ∙ omega arith

module _ {value : ℕ} {xs : List ℕ} {i n : ℕ} (w : Writing value xs i n) where
  pub goes_on : 128 ≤ n → i < 9
  goes_on h =
      ⊎_elim (λ lt. lt)
      (λ ge.
      let k : 7 * (10 - i) ≤ 7 = omega (arith, ge) in
      let m : 2 ^ (7 * (10 - i)) ≤ 2 ^ 7 = pow_mono {j = 7} k in
      absurd (omega (arith, w.small)))
      (cases_lt i 9)

  pub more : (b : ℕ) → 128 ≤ n → b ≡ n % 128 + 128 → Writing value (set xs i b) (i + 1) (n / 128)
  more b h e =
      let lt = goes_on h in
      let k : 7 * (10 - i) ≡ 7 * (10 - (i + 1)) + 7 = omega arith in
      let p = pow-add 2 (7 * (10 - (i + 1))) 7 in
      let j : 10 - i ≡ suc (10 - (i + 1)) = omega arith in
      let in-range : i < length xs = omega (arith, w.room) in
      record {
        room = simp length-set w.room;
        early = omega arith;
        small = (div-lt_iff_lt-mul {k = 128} {x = n} {y = 2 ^ (7 * (10 - (i + 1)))} (omega arith)).1 (omega (arith, subst (λ x. n < 2 ^ x) k w.small, p));
        is =
            ap (λ z. z ++ groups (10 - (i + 1)) (n / 128)) (take_more_set xs i b in-range)
            ∙ append_assoc (take i xs) (b ∷ []) (groups (10 - (i + 1)) (n / 128))
            ∙ ap (λ z. take i xs ++ (z ∷ groups (10 - (i + 1)) (n / 128))) e
            ∙ ap (λ z. take i xs ++ z) (sym (ap (λ z. groups z n) j ∙ cond-false (ltb n 128) _ _ (le-ltb n 128 h)))
            ∙ w.is;
      }
