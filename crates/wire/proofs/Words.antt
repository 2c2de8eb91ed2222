-- The octets of a fixed number, the lowest first, as the number that the library reads. Assumes nothing.
use Rattle.std.proofs.Common.{◌≡◌, ℕ, List, [], ◌∷◌, length, arith, w32, w64}
use Rattle.std.specs.Int.{from_le_bytes}
use Rattle.wire.specs.Octets.{from_little}

pub word_four : (xs : List ℕ) → length xs ≡ 4 → from_le_bytes w32 xs ≡ from_little xs
word_four (a ∷ b ∷ c ∷ d ∷ []) n = omega arith
word_four [] n = absurd (omega arith)
word_four (a ∷ []) n = absurd (omega arith)
word_four (a ∷ b ∷ []) n = absurd (omega arith)
word_four (a ∷ b ∷ c ∷ []) n = absurd (omega arith)
word_four (a ∷ b ∷ c ∷ d ∷ e ∷ xs) n = absurd (omega arith)

pub word_eight : (xs : List ℕ) → length xs ≡ 8 → from_le_bytes w64 xs ≡ from_little xs
word_eight (a ∷ b ∷ c ∷ d ∷ e ∷ f ∷ g ∷ h ∷ []) n = omega arith
word_eight [] n = absurd (omega arith)
word_eight (a ∷ []) n = absurd (omega arith)
word_eight (a ∷ b ∷ []) n = absurd (omega arith)
word_eight (a ∷ b ∷ c ∷ []) n = absurd (omega arith)
word_eight (a ∷ b ∷ c ∷ d ∷ []) n = absurd (omega arith)
word_eight (a ∷ b ∷ c ∷ d ∷ e ∷ []) n = absurd (omega arith)
word_eight (a ∷ b ∷ c ∷ d ∷ e ∷ f ∷ []) n = absurd (omega arith)
word_eight (a ∷ b ∷ c ∷ d ∷ e ∷ f ∷ g ∷ []) n = absurd (omega arith)
word_eight (a ∷ b ∷ c ∷ d ∷ e ∷ f ∷ g ∷ h ∷ i ∷ xs) n = absurd (omega arith)
