use Rattle.std.proofs.Common.{Some, ap, ◌∙◌, rules}
use Rattle.std.proofs.lemmas.List.{take_rest}
use Rattle.request.proofs.setup.message_of.Goals as goal

pub returns : goal.returns
returns c = ap Some (take_rest c.args.request.now c.in_ok-size.from) ∙ search rules
