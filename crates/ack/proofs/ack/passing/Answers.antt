use Rattle.std.proofs.Common.{ap, ◌∙◌}
use Rattle.std.specs.Result.{result_ok}
use Rattle.ack.proofs.Judges.{none_unread, none_failed, some_passed}
use Rattle.ack.proofs.ack.passing.Goals as goal

pub returns-in_err-ack : goal.returns-in_err-ack
returns-in_err-ack c = c.from_residual.ensures ∙ none_unread c.args.input.now (c.in_err-ack.ensures.value ∙ ap result_ok c.read.ensures)

pub returns-then-ack-gt0 : goal.returns-then-ack-gt0
returns-then-ack-gt0 c = none_failed c.args.input.now c.in_ok-ack.ack (c.in_ok-ack.ensures.value ∙ ap result_ok c.read.ensures) c.if-ack-gt0.true

pub returns : goal.returns
returns c = some_passed c.args.input.now c.in_ok-ack.ack (c.in_ok-ack.ensures.value ∙ ap result_ok c.read.ensures) c.if-ack-gt0.false
