use Rattle.std.proofs.Common.{◌≡◌, map, take, drop, vec_items, vec_len, vec_capacity}
use Rattle.pipeline.specs.Offers.{node_row, rows_in_form}
use Rattle.pipeline.proofs.offer.read_rows.Given as goal

abbrev pub invariant-loop-i : goal.invariant-loop-i
invariant-loop-i g l =
    let rows = (g.N.NamenodeProtocol.offer l.namenode).rows in
    (map node_row (vec_items l.list.rows) ≡ take l.i rows) × (rows_in_form (drop l.i rows) ≡ rows_in_form rows) × (vec_len l.list.rows ≡ l.i) × (vec_capacity l.list.rows ≡ vec_capacity l.initial.list.rows)
