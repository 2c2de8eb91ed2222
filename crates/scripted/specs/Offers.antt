-- What a scripted namenode hands out, and what an update makes of the block's entry. Assumes nothing.
use Rattle.std.specs.Prelude.{◌≡◌, Bool, true, false, map, vec_items}
use Rattle.namenode.specs.Entries.{Entry, Row, Offer}
use Rattle.pool.specs.Books.{BookView, with_entry}
use Rattle.scripted.specs.declared.opening.NodeRow.{NodeRow}
use Rattle.scripted.specs.declared.plans.OfferedList.{OfferedList}

-- a row of the script as it is handed out
abbrev pub row_in : NodeRow → Row
row_in r = record { info = vec_items r.info; storage = vec_items r.storage_id; kind = r.storage_type }

abbrev pub offer_in : OfferedList → Offer
offer_in l = record { rows = map row_in (vec_items l.rows); token = vec_items l.token }

-- an accepted update makes the entry what it asks for, and a refused one leaves it
abbrev pub Updated : Entry → Bool → BookView → BookView → Type 0
Updated new true v w = w ≡ with_entry v new
Updated new false v w = w ≡ v
