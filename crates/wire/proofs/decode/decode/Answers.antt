use Rattle.std.proofs.Common.{sym, ap, ◌∙◌}
use Rattle.wire.specs.declared.fields.Fields.{Fields}
use Rattle.wire.proofs.Messages.{begin, more, unmapped_value}
use Rattle.wire.proofs.decode.decode.Goals as goal

pub loop-field-init : goal.loop-field-init
loop-field-init g c =
    let e = c.into_iter-field-iterator.ensures.into_iter_gives in
    let s = c.of-field-items.ensures in
    record { can_next = tt; finite = tt; same = ap (λ (f : Fields). f.input.now) e ∙ s.message; sofar = rw (ap (λ (f : Fields). f.at) e ∙ s.start, c.empty-message.ensures) (begin c.args.input.now g.met.M.Merge.starts) }

pub loop-field-preserved : goal.loop-field-preserved
loop-field-preserved g c =
    let w = rw (c.in_ok-field.was, c.loop-field.invariant.same) at c.in-Some.ensures.steps in
    let m = unmapped_value c.merge_field.result _ c.in_ok-message.ensures.cases in
    let b = rw m at c.merge_field.ensures.bound in
    record {
      can_next = tt;
      finite = tt;
      same = w.0;
      sofar = more c.loop-field.invariant.sofar w.1.0 _ _ w.1.1 _ (sym c.merge_field.ensures.value ∙ m) w.1.3 w.1.4 w.1.5 b;
    }
