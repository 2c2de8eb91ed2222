use Rattle.std.proofs.Common.{◌-◌, length}
use Rattle.readings.proofs.Scan.{Scanned}
use Rattle.readings.proofs.number.number.Given as goal

abbrev pub invariant-loop-next : goal.invariant-loop-next
invariant-loop-next l = Scanned l.line l.limit l.at l.next l.value

abbrev pub decreases-loop-next : goal.decreases-loop-next
decreases-loop-next l = length l.line - l.next
