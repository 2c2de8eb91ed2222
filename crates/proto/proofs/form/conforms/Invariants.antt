use Rattle.std.proofs.Common.{◌≡◌, drop}
use Rattle.proto.specs.Form.{form_from, form_of}
use Rattle.proto.proofs.form.conforms.Given as goal

abbrev pub invariant-loop-rule : goal.invariant-loop-rule
invariant-loop-rule l = form_from (drop l.rule-index l.rules) l.at l.input ≡ form_of l.rules l.input
