-- The rows of an opening's three lists. Assumes nothing.
use Rattle.std.proofs.Common.{◌≡◌, ℕ, zero, suc, ◌<◌, List, [], ◌∷◌, map, length, get_or, refl, ap, not-suc-le-zero, arith, Bor}
use Rattle.proto.specs.declared.datanode.Datanode.{Datanode}
use Rattle.pipeline.specs.Offers.{node_row}
use Rattle.namenode.specs.Entries.{Row}
use Rattle.writer.specs.Opening.{rows_of}

pub row_at_lem : (infos names : List (Bor (List ℕ))) (types : List ℕ) (i : ℕ) (d e : Bor (List ℕ)) (x : Row) → i < length infos → length names ≡ length infos → length types ≡ length infos
    → x ≡ record { info = (get_or infos i d).now; storage = (get_or names i e).now; kind = get_or types i 0 } → x ≡ get_or (rows_of infos names types) i x
row_at_lem [] names types i d e x h ln lt is = absurd (not-suc-le-zero h)
row_at_lem (a ∷ infos) [] types i d e x h ln lt is = absurd (omega (arith, ln))
row_at_lem (a ∷ infos) (b ∷ names) [] i d e x h ln lt is = absurd (omega (arith, lt))
row_at_lem (a ∷ infos) (b ∷ names) (t ∷ types) zero d e x h ln lt is = is
row_at_lem (a ∷ infos) (b ∷ names) (t ∷ types) (suc i) d e x h ln lt is = row_at_lem infos names types i d e x (omega arith) (omega (arith, ln)) (omega (arith, lt)) is

pub rows_long : (infos names : List (Bor (List ℕ))) (types : List ℕ) → length names ≡ length infos → length types ≡ length infos → length (rows_of infos names types) ≡ length infos
rows_long [] names types ln lt = refl
rows_long (a ∷ infos) [] types ln lt = absurd (omega (arith, ln))
rows_long (a ∷ infos) (b ∷ names) [] ln lt = absurd (omega (arith, lt))
rows_long (a ∷ infos) (b ∷ names) (t ∷ types) ln lt = ap suc (rows_long infos names types (omega (arith, ln)) (omega (arith, lt)))

pub map_long : (ds : List Datanode) → length (map node_row ds) ≡ length ds
map_long [] = refl
map_long (d ∷ ds) = ap suc (map_long ds)
