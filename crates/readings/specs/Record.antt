-- A reading as the 52 octets of a block: each number with its highest octet first. Assumes nothing.
use Rattle.std.specs.Prelude.{ℕ, zero, suc, ◌+◌, cond, List, [], ◌∷◌, ◌++◌, length, take, drop, Some, None, Option, ◌==◌}
use Rattle.std.specs.Int.Digits.{number_from_digits}
use Rattle.wire.specs.Octets.{big}
use Rattle.readings.specs.declared.reading.Reading.{Reading}

-- numbers one after another, each in n octets
abbrev pub bigs : ℕ → List ℕ → List ℕ
bigs n [] = []
bigs n (x ∷ xs) = big n x ++ bigs n xs

-- the time in eight octets, the weights in four each, the burners and the crown temperatures in two each
unfoldable pub octets_of : Reading → List ℕ
octets_of r = big 8 r.time ++ (bigs 4 r.weights ++ (bigs 2 r.burners ++ bigs 2 r.crowns))

-- the number in the n octets at that place, to base 256
unfoldable pub big_at : ℕ → ℕ → List ℕ → ℕ
big_at n at bs = number_from_digits 256 (take n (drop at bs))

-- k such numbers one after another
abbrev pub bigs_at : ℕ → ℕ → ℕ → List ℕ → List ℕ
bigs_at n zero at bs = []
bigs_at n (suc k) at bs = big_at n at bs ∷ bigs_at n k (at + n) bs

abbrev pub reading_of : List ℕ → Option Reading
reading_of bs =
    cond (length bs == 52)
    (Some (record { time = big_at 8 0 bs; weights = bigs_at 4 4 8 bs; burners = bigs_at 2 6 24 bs; crowns = bigs_at 2 8 36 bs }))
    None
