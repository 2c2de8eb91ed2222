use Rattle.std.proofs.Common.{◌≡◌, map, take, drop, vec_items, vec_len}
use Rattle.pipeline.specs.Offers.{node_row, rows_in_form}
use Rattle.writer.specs.Opening.{rows_in}
use Rattle.writer.proofs.opening.Opening.read_nodes.Given as goal

abbrev pub invariant-loop-i : goal.invariant-loop-i
invariant-loop-i l =
    (map node_row (vec_items l.list.rows) ≡ take l.i (rows_in l.self)) × (rows_in_form (drop l.i (rows_in l.self)) ≡ rows_in_form (rows_in l.self)) × (vec_len l.list.rows ≡ l.i)
