use Rattle.std.proofs.Common.{◌≡◌}
use Rattle.wire.proofs.Messages.{Sofar}
use Rattle.wire.proofs.decode.decode.Given as goal

abbrev pub invariant-loop-field : goal.invariant-loop-field
invariant-loop-field g l = record {
  can_next : (goal.iterator-loop-field g).can_next l.field-iterator;
  finite : (goal.iterator-loop-field g).is_finite l.field-iterator;
  same : l.field-iterator.input.now ≡ l.input;
  sofar : Sofar g.M.Merge.merges g.M.Merge.size g.M.Merge.none l.input l.field-iterator.at l.message;
}
