use Rattle.std.proofs.Common.{◌≡◌, ◌+◌, ◌*◌, ◌<◌, [], drop, Err, sym, ap, ◌∙◌, arith}
use Rattle.readings.specs.Line.{digits, number_at}
use Rattle.readings.proofs.Scan.{digits_none, digits_end, goes, above, none, ends}
use Rattle.readings.proofs.number.number.Goals as goal
use Rattle.readings.proofs.number.number.Goals.{then-value-limit-via-then-value-limit, then-value-limit-via-else-value-limit+then-digit-limit, then-loop-next-test+else-is_ascii_digit, else-loop-next-test}

pub returns-then-value-limit : goal.returns-then-value-limit
unfolding number_at
returns-then-value-limit c =
    let over : c.args.limit < 10 * c.loop-next.value + c.from-digit.result =
    elim c.then-value-limit.branch [
      | then-value-limit-via-then-value-limit w ↦ omega (arith, w.if-value-limit.true)
      | then-value-limit-via-else-value-limit+then-digit-limit w ↦ omega (arith, w.if-value-limit.false, w.if-digit-limit.true)
    ] in
    record {
      value = ap Err c.at.ensures ∙ above c.loop-next.invariant c.loop-next-test.true (sym c.if-is_ascii_digit.ensures.value) c.from-digit.result c.from-digit.ensures over;
      within = tt;
    }

pub loop-next-preserved : goal.loop-next-preserved
loop-next-preserved c = goes c.loop-next.invariant c.loop-next-test.true (sym c.if-is_ascii_digit.ensures.value) c.from-digit.result c.from-digit.ensures (omega arith)

pub returns-then-next-at : goal.returns-then-next-at
unfolding number_at
returns-then-next-at c =
    let e : digits (drop c.loop-next.next c.args.line.now) ≡ [] =
    elim c.loop-next-test.branch [
      | then-loop-next-test+else-is_ascii_digit w ↦ digits_none _ _ w.loop-next-test.true (sym w.if-is_ascii_digit.ensures.value)
      | else-loop-next-test w ↦ digits_end _ _ w.loop-next-test.false
    ] in
    record { value = ap Err c.at-then-next-at.ensures ∙ none c.loop-next.invariant e c.if-next-at.true; within = tt }

pub returns : goal.returns
unfolding number_at
returns c =
    let e : digits (drop c.loop-next.next c.args.line.now) ≡ [] =
    elim c.loop-next-test.branch [
      | then-loop-next-test+else-is_ascii_digit w ↦ digits_none _ _ w.loop-next-test.true (sym w.if-is_ascii_digit.ensures.value)
      | else-loop-next-test w ↦ digits_end _ _ w.loop-next-test.false
    ] in
    record { value = ends c.loop-next.invariant e c.if-next-at.false; within = c.loop-next.invariant.within }
