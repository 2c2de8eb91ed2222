use Rattle.std.proofs.Common.{rules}
use Rattle.readings.specs.Line.{slot_at}
use Rattle.readings.proofs.number.read_slot.Goals as goal

pub returns-in_err-value : goal.returns-in_err-value
unfolding slot_at
returns-in_err-value c = search rules

pub returns-in_err-next : goal.returns-in_err-next
unfolding slot_at
returns-in_err-next c = search rules

pub returns : goal.returns
unfolding slot_at
returns c = search rules
