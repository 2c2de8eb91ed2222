-- Numbers as octets, in the two orders of the formats. Assumes nothing.
use Rattle.std.specs.Prelude.{ℕ, zero, suc, ◌+◌, ◌*◌, ◌/◌, ◌%◌, ◌<◌, List, [], ◌∷◌, ◌++◌}
use Rattle.std.specs.List.{AllByRecursion}

-- the n lowest octets of a number, the lowest first
abbrev pub little : ℕ → ℕ → List ℕ
little zero x = []
little (suc n) x = x % 256 ∷ little n (x / 256)

-- the same, the highest first
abbrev pub big : ℕ → ℕ → List ℕ
big zero x = []
big (suc n) x = big n (x / 256) ++ x % 256 ∷ []

-- the number whose octets are these, the lowest first
abbrev pub from_little : List ℕ → ℕ
from_little [] = 0
from_little (b ∷ bs) = b + 256 * from_little bs

-- numbers that are octets
abbrev pub AllOctets : List ℕ → Type 0
AllOctets bs = AllByRecursion (λ b. b < 256) bs
