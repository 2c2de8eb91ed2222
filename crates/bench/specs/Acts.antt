-- A put of a bench: decided by its first node, unless the memory of another is full. Assumes nothing.
use Rattle.std.specs.Prelude.{◌≡◌, ℕ, Bool, false, ◌⊎◌, List}
use Rattle.spool.specs.Calls.{Puts}
use Rattle.spool.specs.Spools.{SpoolView}

abbrev pub PutsOrFull : SpoolView → List ℕ → Bool → SpoolView → Type 0
PutsOrFull v frame taken w = Puts v frame taken w ⊎ ((taken ≡ false) × (w ≡ v))
