use Rattle.std.proofs.Common.{◌≡◌, ◌++◌, map, take, drop}
use Rattle.bench.specs.Replicas.{copies}
use Rattle.bench.proofs.replicas.append_all.Given as goal

abbrev pub invariant-loop-replica : goal.invariant-loop-replica
invariant-loop-replica l = record {
  grown : copies (take l.replica-index l.replicas) ≡ map (λ b. b ++ l.more) (copies (take l.replica-index l.initial.replicas));
  left : drop l.replica-index l.replicas ≡ drop l.replica-index l.initial.replicas;
}
