-- The entry that a namenode in memory keeps, with its token, and what a request makes of it. Assumes nothing.
use Rattle.std.specs.Prelude.{ℕ, ◌+◌, ◌-◌, ◌^◌, Bool, if◌then◌else◌, List, map, length, Some, None, vec_items, Option, ◌==◌, nat_le}
use Rattle.proto.specs.declared.datanode.Datanode.{Datanode}
use Rattle.proto.specs.Messages.{octets_in, info_of}
use Rattle.namenode.specs.Entries.{Entry, Row, Offer, entry_for}
use Rattle.pool.specs.declared.book.Book.{Book}

-- a book by its contents
pub record BookView : Type 0 where
  pub entry : Entry
  pub token : List ℕ

abbrev pub book_of : Book → BookView
book_of b = record { entry = entry_for b.stamp b.size (vec_items b.nodes); token = octets_in b.token.message }

-- the next stamp; there is none after the last of 64 bits
abbrev pub stamp_after : ℕ → Option ℕ
stamp_after stamp = if stamp == 2 ^ 64 - 1 then None else Some (stamp + 1)

abbrev pub with_token : Option ℕ → List ℕ → Option (ℕ × List ℕ)
with_token (Some stamp) token = Some (stamp, token)
with_token None token = None

-- an update is accepted where it names eight datanodes at most
abbrev pub room_for : List (List ℕ) → Bool
room_for ids = nat_le (length ids) 8

abbrev pub accepts : Entry → Bool
accepts new = room_for new.ids

abbrev pub with_entry : BookView → Entry → BookView
with_entry v new = record v { entry = new }

-- a datanode as it is handed out
abbrev pub row_for : Datanode → Row
row_for d = record { info = info_of d; storage = octets_in d.storage_id; kind = d.storage_type }

-- a list as it is handed out, with the token
abbrev pub offer_with : List ℕ → List Datanode → Offer
offer_with token nodes = record { rows = map row_for nodes; token = token }
