-- What a namenode without spare datanodes answers, and what it holds after. Assumes nothing.
use Rattle.std.specs.Prelude.{◌≡◌, ℕ, Bool, if◌then◌else◌, List, [], None, Option}
use Rattle.namenode.specs.Entries.{Entry, Offer}
use Rattle.pool.specs.declared.memory.MemoryNamenode.{MemoryNamenode}
use Rattle.pool.specs.declared.spares.NoSpares.{NoSpares}
use Rattle.pool.specs.Books.{BookView, book_of, stamp_after, with_token, accepts, with_entry}

abbrev pub house_of : MemoryNamenode NoSpares → BookView
house_of h = book_of h.book

-- it has handed out no datanode
abbrev pub empty_offer : BookView → Offer
empty_offer v = record { rows = []; token = v.token }

-- every list is refused
abbrev pub Lists : BookView → Option Offer → BookView → Type 0
Lists v came w = (came ≡ None) × (w ≡ v)

-- the stamp after the entry's, with the one token
abbrev pub Stamps : BookView → Option (ℕ × List ℕ) → BookView → Type 0
Stamps v came w = (came ≡ with_token (stamp_after v.entry.stamp) v.token) × (w ≡ v)

abbrev pub Updates : BookView → Entry → Bool → BookView → Type 0
Updates v new accepted w = (accepted ≡ accepts new) × (w ≡ (if accepted then with_entry v new else v))
