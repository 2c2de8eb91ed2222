use Rattle.std.proofs.Common.{◌≡◌, Ok}
use Rattle.wire.proofs.Messages.{Sofar}
use Rattle.wire.proofs.find.find.Given as goal

abbrev pub invariant-loop-field : goal.invariant-loop-field
invariant-loop-field g l = record {
  can_next : (goal.iterator-loop-field g).can_next l.field-iterator;
  finite : (goal.iterator-loop-field g).is_finite l.field-iterator;
  same : l.field-iterator.input.now ≡ l.input;
  sofar : Sofar (λ s f. Ok (g.V.Wanted.pick l.tag s f)) (λ _. 0) g.V.Wanted.absent l.input l.field-iterator.at (g.V.Wanted.view l.value);
}
