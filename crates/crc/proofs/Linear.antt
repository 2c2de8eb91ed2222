-- The register's steps: linear over xor, and a number shifted up by n bits comes back after n steps.
-- Assumes nothing.
use Rattle.std.proofs.Common.{◌≡◌, ℕ, zero, suc, ◌+◌, ◌*◌, ◌/◌, ◌%◌, ◌^◌, ◌<◌, List, [], ◌∷◌, length, sym, refl, ap, ◌∙◌, ap₂, le_of_suc-le-suc, not-suc-le-zero, suc-add, zero-add, arith}
use lib.Bits.{bit_xor, xor_assoc, xor_comm, xor_self, xor_zero_r, xor_shr, xor_mod, shifted_half, shifted_even}
use Rattle.std.proofs.lemmas.Nat.{mod_below}
use Rattle.crc.specs.Crc.{if_set, step, steps, after}
use Rattle.crc.specs.Laws.{packed, Linear, Joined}

pub left_comm : (a b c : ℕ) → bit_xor a (bit_xor b c) ≡ bit_xor b (bit_xor a c)
left_comm a b c = sym (xor_assoc a b c) ∙ ap (λ (x : ℕ). bit_xor x c) (xor_comm a b) ∙ xor_assoc b a c

pub swap : (a b c d : ℕ) → bit_xor (bit_xor a b) (bit_xor c d) ≡ bit_xor (bit_xor a c) (bit_xor b d)
swap a b c d = xor_assoc a b (bit_xor c d) ∙ ap (bit_xor a) (left_comm b c d) ∙ sym (xor_assoc a c (bit_xor b d))

bits : (x y p : ℕ) → x < 2 → y < 2 → if_set (bit_xor x y) p ≡ bit_xor (if_set x p) (if_set y p)
unfolding if_set
bits zero y p hx hy = refl
bits (suc zero) zero p hx hy = sym (xor_zero_r p)
bits (suc zero) (suc zero) p hx hy = sym (xor_self p)
bits (suc zero) (suc (suc y)) p hx hy = absurd (not-suc-le-zero (le_of_suc-le-suc (le_of_suc-le-suc hy)))
bits (suc (suc x)) y p hx hy = absurd (not-suc-le-zero (le_of_suc-le-suc (le_of_suc-le-suc hx)))

low : (a b p : ℕ) → if_set (bit_xor a b % 2) p ≡ bit_xor (if_set (a % 2) p) (if_set (b % 2) p)
low a b p =
    ap (λ (x : ℕ). if_set x p) (xor_mod a b 1) ∙ bits (a % 2) (b % 2) p (mod_below a 2 (omega arith)) (mod_below b 2 (omega arith))

step_xor : (p a b : ℕ) → step p (bit_xor a b) ≡ bit_xor (step p a) (step p b)
unfolding step
step_xor p a b =
    ap₂ bit_xor (xor_shr a b 1) (low a b p) ∙ swap (a / 2) (b / 2) (if_set (a % 2) p) (if_set (b % 2) p)

pub steps_xor : Linear
unfolding steps
steps_xor p zero a b = refl
steps_xor p (suc n) a b = ap (steps p n) (step_xor p a b) ∙ steps_xor p n (step p a) (step p b)

pub steps_add : (p m n v : ℕ) → steps p (m + n) v ≡ steps p n (steps p m v)
unfolding steps
steps_add p zero n v = ap (λ (k : ℕ). steps p k v) (zero-add n)
steps_add p (suc m) n v = ap (λ (k : ℕ). steps p k v) (suc-add m n) ∙ steps_add p m n (step p v)

step_shift : (p n w : ℕ) → step p (w * 2 ^ suc n) ≡ w * 2 ^ n
unfolding step if_set
step_shift p n w =
    ap₂ (λ (h l : ℕ). bit_xor h (if_set l p)) (shifted_half w n) (shifted_even w n) ∙ xor_zero_r (w * 2 ^ n)

pub steps_shift : (p n w : ℕ) → steps p n (w * 2 ^ n) ≡ w
unfolding steps
steps_shift p zero w = omega arith
steps_shift p (suc n) w = ap (steps p n) (step_shift p n w) ∙ steps_shift p n w

pub after_append : Joined
unfolding after
after_append p v [] ys = refl
after_append p v (x ∷ xs) ys = after_append p (steps p 8 (bit_xor v x)) xs ys

eight : (n : ℕ) → 8 + 8 * n ≡ 8 * suc n
eight n = omega arith

none : (p v : ℕ) → v ≡ steps p 0 (bit_xor v 0)
unfolding steps
none p v = sym (xor_zero_r v)

-- the register after bytes is that of one number, the bytes' and the register's bits joined by xor
pub after_is : (p v : ℕ) (bs : List ℕ) → after p v bs ≡ steps p (8 * length bs) (bit_xor v (packed bs))
unfolding after packed
after_is p v [] = none p v
after_is p v (b ∷ bs) =
    after_is p (steps p 8 (bit_xor v b)) bs
    ∙ ap (λ (x : ℕ). steps p (8 * length bs) (bit_xor (steps p 8 (bit_xor v b)) x)) (sym (steps_shift p 8 (packed bs)))
    ∙ ap (steps p (8 * length bs)) (sym (steps_xor p 8 (bit_xor v b) (packed bs * 2 ^ 8)))
    ∙ sym (steps_add p 8 (8 * length bs) (bit_xor (bit_xor v b) (packed bs * 2 ^ 8)))
    ∙ ap₂ (steps p) (eight (length bs)) (xor_assoc v b (packed bs * 2 ^ 8))
