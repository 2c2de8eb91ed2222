use Rattle.readings.specs.Line.{table}
use Rattle.readings.proofs.Slots.{Filled}
use Rattle.readings.proofs.line.numbers.Given as goal

abbrev pub invariant-loop-i : goal.invariant-loop-i
invariant-loop-i l = Filled table l.line l.i l.at l.values
