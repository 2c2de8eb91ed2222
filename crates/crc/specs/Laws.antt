-- The laws of the register, over every polynomial.
-- Assumes nothing.
use Rattle.std.specs.Prelude.{◌≡◌, ℕ, ◌*◌, ◌^◌, List, [], ◌∷◌, ◌++◌, bit_xor}
use Rattle.crc.specs.Crc.{steps, after}

-- bytes as one number, the first byte lowest
unfoldable pub packed : List ℕ → ℕ
packed [] = 0
packed (b ∷ bs) = bit_xor b (packed bs * 2 ^ 8)

-- the register's steps are linear over xor
abbrev pub Linear : Type 0
Linear = (p n a b : ℕ) → steps p n (bit_xor a b) ≡ bit_xor (steps p n a) (steps p n b)

-- one part after another is both joined
abbrev pub Joined : Type 0
Joined = (p v : ℕ) (xs ys : List ℕ) → after p v (xs ++ ys) ≡ after p (after p v xs) ys
