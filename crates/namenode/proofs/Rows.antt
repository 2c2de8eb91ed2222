-- Rows of a list that is handed out, one by one. Assumes nothing.
use Rattle.std.proofs.Common.{◌≡◌, ℕ, zero, suc, ◌<◌, ◌≤◌, List, [], ◌∷◌, map, length, get_or, Some, None, refl, arith}
use Rattle.namenode.specs.Entries.{Row, row_at}

pub row_there : {X : Type 0} (row : X → Row) (xs : List X) (i : ℕ) (x : X) → i < length xs → row_at (map row xs) i ≡ Some (row (get_or xs i x))
row_there row [] i x h = absurd (omega arith)
row_there row (y ∷ xs) zero x h = refl
row_there row (y ∷ xs) (suc i) x h = row_there row xs i x (omega arith)

pub row_past : {X : Type 0} (row : X → Row) (xs : List X) (i : ℕ) → length xs ≤ i → row_at (map row xs) i ≡ None
row_past row [] i h = refl
row_past row (y ∷ xs) zero h = absurd (omega arith)
row_past row (y ∷ xs) (suc i) h = row_past row xs i (omega arith)
