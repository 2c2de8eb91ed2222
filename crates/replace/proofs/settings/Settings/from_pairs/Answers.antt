use Rattle.std.proofs.Common.{ap, ◌∙◌}
use Rattle.std.proofs.lemmas.List.{take_all}
use Rattle.replace.specs.Listed.{listed, texts}
use Rattle.replace.proofs.Lasts.{listed_more}
use Rattle.replace.proofs.settings.Settings.from_pairs.Goals as goal

pub loop-name-preserved : goal.loop-name-preserved
loop-name-preserved c =
    c.set.ensures ∙ listed_more c.args.pairs.now c.loop-name.name-index _ c.loop-name.settings c.loop-name-test.true c.loop-name.invariant

pub returns : goal.returns
returns c = c.loop-name.invariant ∙ ap (λ z. listed (texts z)) (take_all c.loop-name.name-index c.args.pairs.now c.loop-name-test.false)
