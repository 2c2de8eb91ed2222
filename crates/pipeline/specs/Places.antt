-- One place of a list. Assumes nothing.
use Rattle.std.specs.Prelude.{ℕ, ◌+◌, List, ◌∷◌, ◌++◌, take, drop}

-- x at place i, or behind the last element where i is the length
abbrev pub placed : {X : Type 0} → List X → ℕ → X → List X
placed xs i x = take i xs ++ x ∷ drop (i + 1) xs
