use Rattle.std.proofs.Common.{◌≡◌, ◌≤◌, take, vec_items, vec_len, vec_capacity}
use Rattle.pipeline.proofs.nodes.NodeTable.overwrite.Given as goal

abbrev pub invariant-loop-i : goal.invariant-loop-i
invariant-loop-i l = (take l.i (vec_items l.self.rows) ≡ take l.i l.list) × (l.i ≤ vec_len l.self.rows) × (vec_capacity l.self.rows ≡ vec_capacity l.initial.self.rows)
