-- What a namenode has of a block, what it is asked, and what it offers. Assumes nothing.
use Rattle.std.specs.Prelude.{◌≡◌, ℕ, zero, suc, Bool, true, false, List, [], ◌∷◌, map, Some, None, Option, Ok, Err, Result}
use Rattle.proto.specs.declared.datanode.Datanode.{Datanode}
use Rattle.proto.specs.Messages.{octets_in, id_of}
use Rattle.namenode.specs.declared.protocol.Offered.{Offered}

-- the block's generation stamp and length, and where it is: the ids of its datanodes and the names of its storages on them
pub record Entry : Type 0 where
  pub stamp : ℕ
  pub size : ℕ
  pub ids : List (List ℕ)
  pub storages : List (List ℕ)

-- the entry that an update asks for
abbrev pub entry_for : ℕ → ℕ → List Datanode → Entry
entry_for stamp size nodes = record {
  stamp = stamp;
  size = size;
  ids = map id_of nodes;
  storages = map (λ d. octets_in d.storage_id) nodes;
}

-- what a namenode is told when it is asked for a datanode more: the block's length, the datanodes that are left, and those that failed
pub record Ask : Type 0 where
  pub size : ℕ
  pub survivors : List Datanode
  pub failed : List Datanode

abbrev pub ask_for : ℕ → List Datanode → List Datanode → Ask
ask_for size survivors failed = record { size = size; survivors = survivors; failed = failed }

-- a datanode as a namenode hands it out, which nobody has looked at yet
pub record Row : Type 0 where
  pub info : List ℕ
  pub storage : List ℕ
  pub kind : ℕ

-- a list of datanodes with a token
pub record Offer : Type 0 where
  pub rows : List Row
  pub token : List ℕ

-- the answer to such a request is the offer that the namenode then holds, or a refusal
abbrev pub Lists : (Option Offer → Type 0) → Offer → Bool → Type 0
Lists act offer true = act (Some offer)
Lists act offer false = act None

-- a new stamp comes with a token
abbrev pub Stamps : {E : Type 0} → (Option (ℕ × List ℕ) → Type 0) → List ℕ → Result ℕ E → Type 0
Stamps act token (Ok stamp) = act (Some (stamp, token))
Stamps act token (Err e) = act None

-- an accepted update replaces the entry whole, and nothing else does
abbrev pub Updates : Entry → Bool → Entry → Entry → Type 0
Updates new true old after = after ≡ new
Updates new false old after = after ≡ old

-- a row of the offer, where there is one at that position
abbrev pub row_at : List Row → ℕ → Option Row
row_at [] i = None
row_at (r ∷ rs) zero = Some r
row_at (r ∷ rs) (suc i) = row_at rs i

abbrev pub row_of : Option Offered → Option Row
row_of (Some o) = Some (record { info = o.info.now; storage = o.storage_id.now; kind = o.storage_type })
row_of None = None
