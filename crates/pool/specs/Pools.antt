-- What a namenode with spare datanodes answers, and what it holds after. Assumes nothing.
use Rattle.std.specs.Prelude.{◌≡◌, ℕ, Bool, if◌then◌else◌, not, List, [], ◌∷◌, ◌++◌, length, Some, None, find, vec_items, Option, nat_le}
use Rattle.proto.specs.declared.datanode.Datanode.{Datanode}
use Rattle.replace.specs.Choice.{any_same}
use Rattle.namenode.specs.Entries.{Entry, Ask, Offer}
use Rattle.pool.specs.declared.spare_datanodes.SpareDatanodes.{SpareDatanodes}
use Rattle.pool.specs.declared.memory.MemoryNamenode.{MemoryNamenode}
use Rattle.pool.specs.Books.{BookView, book_of, offer_with}
use Rattle.pool.specs.Houses as houses

-- a pool by its contents
pub record PoolView : Type 0 where
  pub book : BookView
  pub spares : List Datanode
  pub offered : List Datanode

-- an entry and a token beside some spares
abbrev pub with_spares : BookView → SpareDatanodes → PoolView
with_spares v s = record { book = v; spares = vec_items s.spares; offered = vec_items s.offered }

abbrev pub pool_of : MemoryNamenode SpareDatanodes → PoolView
pool_of p = with_spares (book_of p.book) p.spares

-- the last list that was handed out
abbrev pub offer_of : PoolView → Offer
offer_of v = offer_with v.book.token v.offered

-- the first spare whose ip and port none of the old datanodes has
abbrev pub first_spare : List Datanode → List Datanode → Option Datanode
first_spare spares old = find (λ s. not (any_same old s)) spares

abbrev pub with_spare : List Datanode → Option Datanode → Option (List Datanode)
with_spare survivors (Some s) = Some (survivors ++ s ∷ [])
with_spare survivors None = None

-- the survivors, of which there is room for eight, and then a spare that is new to survivors and failed ones
abbrev pub list_for : List Datanode → List Datanode → List Datanode → Option (List Datanode)
list_for spares survivors failed =
    if nat_le (length survivors) 8 then with_spare survivors (first_spare spares (survivors ++ failed)) else None

-- a list that is offered is kept, and a refusal leaves what there was
abbrev pub listed : PoolView → Option (List Datanode) → PoolView
listed v (Some ns) = record v { offered = ns }
listed v None = v

abbrev pub offering : List ℕ → Option (List Datanode) → Option Offer
offering token (Some ns) = Some (offer_with token ns)
offering token None = None

abbrev pub Lists : PoolView → Ask → Option Offer → PoolView → Type 0
Lists v q came w =
    let ns = list_for v.spares q.survivors q.failed in
    (came ≡ offering v.book.token ns) × (w ≡ listed v ns)

abbrev pub Stamps : PoolView → Option (ℕ × List ℕ) → PoolView → Type 0
Stamps v came w = houses.Stamps v.book came w.book × (w.spares ≡ v.spares) × (w.offered ≡ v.offered)

abbrev pub Updates : PoolView → Entry → Bool → PoolView → Type 0
Updates v new accepted w = houses.Updates v.book new accepted w.book × (w.spares ≡ v.spares) × (w.offered ≡ v.offered)
