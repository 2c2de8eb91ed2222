use Rattle.std.proofs.Common.{Ok, sym, refl, ap, ◌∙◌, arith}
use Rattle.wire.specs.declared.fields.Fields.{Fields}
use Rattle.wire.specs.Find.{read_or, found}
use Rattle.wire.proofs.Messages.{begin, end, no_field, more}
use Rattle.wire.proofs.find.find.Goals as goal

pub loop-field-init : goal.loop-field-init
loop-field-init g c =
    let e = c.into_iter-field-iterator.ensures.into_iter_gives in
    let s = c.of-field-items.ensures in
    record { can_next = tt; finite = tt; same = ap (λ (f : Fields). f.input.now) e ∙ s.message; sofar = rw (ap (λ (f : Fields). f.at) e ∙ s.start, c.absent-value.ensures) (begin c.args.input.now refl) }

pub loop-field-preserved : goal.loop-field-preserved
loop-field-preserved g c =
    let w = rw (c.in-Ok.is, c.loop-field.invariant.same) at c.in-Some.ensures.steps in
    record {
      can_next = tt;
      finite = tt;
      same = w.0;
      sofar = more c.loop-field.invariant.sofar w.1.0 _ _ w.1.1 _ (ap Ok (sym c.or-value.ensures)) w.1.3 w.1.4 w.1.5 (omega arith);
    }

pub returns-in_default : goal.returns-in_default
unfolding found
returns-in_default g c =
    let w = rw (c.in_default.is, c.loop-field.invariant.same) at c.in-Some.ensures.steps in
    c.absent.ensures ∙ ap (read_or g.V.Wanted.absent) (no_field c.loop-field.invariant.sofar w.1.0 _ w.1.1)

pub returns : goal.returns
unfolding found
returns g c =
    let w = rw c.loop-field.invariant.same at c.in-None.ensures.steps in
    ap (read_or g.V.Wanted.absent) (end c.loop-field.invariant.sofar w.1.0)
