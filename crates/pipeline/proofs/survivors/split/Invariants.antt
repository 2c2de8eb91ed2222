use Rattle.std.proofs.Common.{◌≡◌, ◌+◌, ◌≤◌, ◌++◌, length, vec_items, vec_len, vec_capacity}
use Rattle.pipeline.specs.Survivors.{survivors, failed_of}
use Rattle.pipeline.proofs.survivors.split.Given as goal

-- what is told apart, with what is left to be told apart, is the whole
abbrev pub invariant-loop-node : goal.invariant-loop-node
invariant-loop-node l =
    let nodes = l.node-iterator.a.rest.now in
    let flags = l.node-iterator.b.rest.now in
    (vec_items l.left.rows ++ survivors flags nodes ≡ survivors l.failed.positions l.nodes)
    × (vec_items l.gone.rows ++ failed_of flags nodes ≡ failed_of l.failed.positions l.nodes)
    × (vec_len l.left.rows + length nodes ≤ 8) × (vec_len l.gone.rows + length nodes ≤ 8) × (length nodes ≤ length flags)
    × (vec_capacity l.left.rows ≡ vec_capacity l.initial.left.rows) × (vec_capacity l.gone.rows ≡ vec_capacity l.initial.gone.rows)
