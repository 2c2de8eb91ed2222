use Rattle.std.proofs.Common.{sym, ◌∙◌}
use Rattle.std.proofs.lemmas.Bool.{le-leb, lt-leb, and_from, and_left, and_right}
use Rattle.proto.specs.Rules.{is_token, block_token}
use Rattle.proto.proofs.Forms.{refused_for, made_as}
use Rattle.proto.proofs.token.Token.new.Goals as goal

pub returns-then-not-conforms : goal.returns-then-not-conforms
unfolding is_token block_token
returns-then-not-conforms c = and_right _ _ (sym c.conforms.ensures ∙ c.if-not-conforms.true)

pub returns-in_err-ok : goal.returns-in_err-ok
unfolding is_token
returns-in_err-ok c =
    let long = refused_for _ c.try_from.result c.in_err-ok.ensures.value c.try_from.ensures in
    rw c.from_residual.ensures (and_left _ _ (lt-leb _ _ long))

pub returns : goal.returns
unfolding is_token block_token
returns c =
    let m = made_as _ _ c.try_from.result c.in_ok-ok.field-0 c.in_ok-ok.ensures.value c.try_from.ensures in
    (and_from _ _ (le-leb _ _ m.1) (sym c.conforms.ensures ∙ c.if-not-conforms.false), m.0)
