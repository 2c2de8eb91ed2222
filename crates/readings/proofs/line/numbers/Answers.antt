use Rattle.std.proofs.Common.{Err, sym, ap, ◌∙◌}
use Rattle.std.proofs.lemmas.Result.{err_from_is_err_and}
use Rattle.readings.specs.declared.number.Mark.TheVariants.{Comma}
use Rattle.readings.specs.Line.{slot}
use Rattle.readings.proofs.Slots.{goes, fails, done}
use Rattle.readings.proofs.line.numbers.Goals as goal

pub returns-in_err-value : goal.returns-in_err-value
returns-in_err-value c =
    let p = err_from_is_err_and c.from_residual.result c.from_residual.ensures.1 in
    p.1 ∙ ap Err p.2 ∙ fails c.loop-i.invariant (slot 0 Comma) c.loop-i-test.true _ (sym c.in_err-value.ensures.value)

pub loop-i-preserved : goal.loop-i-preserved
loop-i-preserved c =
    goes c.loop-i.invariant (slot 0 Comma) c.loop-i-test.true _ _ (sym c.in_ok-value.ensures.value) c.in_ok-value.ensures.within

pub returns : goal.returns
returns c = done c.loop-i.invariant c.loop-i-test.false
