use Rattle.std.proofs.Common.{Some, None, sym, refl, ◌∙◌}
use Rattle.proto.specs.Form.{form_of}
use Rattle.proto.proofs.Forms.{rule_on, rules_all}
use Rattle.proto.proofs.form.conforms.Goals as goal

pub loop-rule-init : goal.loop-rule-init
unfolding form_of
loop-rule-init c = refl

pub returns-in_default : goal.returns-in_default
returns-in_default c = sym (rule_on c.args.rules.now c.args.input.now _ _ _ c.loop-rule-test.true None c.in_default.ensures) ∙ c.loop-rule.invariant

pub loop-rule-preserved : goal.loop-rule-preserved
loop-rule-preserved c = sym (rule_on c.args.rules.now c.args.input.now _ _ _ c.loop-rule-test.true (Some c.in-Some.next) c.in-Some.ensures) ∙ c.loop-rule.invariant

pub returns : goal.returns
returns c = sym (rules_all c.args.rules.now c.args.input.now _ _ c.loop-rule-test.false) ∙ c.loop-rule.invariant
