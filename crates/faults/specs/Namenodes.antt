-- The requests of a namenode that refuses by chance. Assumes nothing.
use Rattle.std.specs.Prelude.{◌≡◌, ℕ, Bool, false, List, None, Option}
use Rattle.namenode.specs.Entries.{Entry, Ask, Offer}
use Rattle.namenode.specs.declared.protocol.NamenodeProtocol as NamenodeProtocol
use Rattle.faults.specs.declared.faulty_namenode.FaultyNamenode.{FaultyNamenode}
use Rattle.faults.specs.Chances.{hits}
use Rattle.faults.specs.Faults.{Acts}

abbrev pub due : {N : Type 0} → FaultyNamenode N → Bool
due a = hits a.rarity a.chance.state

module _ {N : Type 0} (asks : NamenodeProtocol.Ghosts N) where
  abbrev pub Lists : FaultyNamenode N → Ask → Option Offer → FaultyNamenode N → Type 0
  Lists a asked came b = Acts (due a) ((b.inner ≡ a.inner) × (came ≡ None)) (asks.lists a.inner asked came b.inner)

  abbrev pub Stamps : FaultyNamenode N → ℕ → Option (ℕ × List ℕ) → FaultyNamenode N → Type 0
  Stamps a size came b = Acts (due a) ((b.inner ≡ a.inner) × (came ≡ None)) (asks.stamps a.inner size came b.inner)

  abbrev pub Updates : FaultyNamenode N → Entry → Bool → FaultyNamenode N → Type 0
  Updates a new accepted b = Acts (due a) ((b.inner ≡ a.inner) × (accepted ≡ false)) (asks.updates a.inner new accepted b.inner)
