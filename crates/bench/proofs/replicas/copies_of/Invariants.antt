use Rattle.std.proofs.Common.{◌≡◌, replicate, vec_items}
use Rattle.bench.specs.Replicas.{copies}
use Rattle.bench.proofs.replicas.copies_of.Given as goal

abbrev pub invariant-copies : goal.invariant-copies
invariant-copies l = copies (vec_items l.all) ≡ replicate l.counter l.bytes
