use Rattle.std.proofs.Common.{Ok, Err, ap, ◌∙◌}
use Rattle.std.proofs.lemmas.Result.{err_from_is_err_and}
use Rattle.ack.proofs.Judges.{judged_as}
use Rattle.ack.proofs.ack.judge.Goals as goal

pub returns-in_err-ack : goal.returns-in_err-ack
returns-in_err-ack c =
    let p = err_from_is_err_and c.from_residual.result c.from_residual.ensures.1 in
    rw (p.1, p.2) (judged_as c.args.input.now (Err _) c.in_err-ack.ensures)

pub returns : goal.returns
returns c = ap Ok c.verdict.ensures ∙ judged_as c.args.input.now (Ok c.in_ok-ack.ack) c.in_ok-ack.ensures
