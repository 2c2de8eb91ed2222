use Rattle.std.proofs.Common.{not, ◌++◌, rules, tests, ◌∙◌}
use Rattle.std.proofs.lemmas.Iterator.{YieldsList-from_slice}
use Rattle.std.proofs.lemmas.Iterator.Search.{find_from_yields_List}
use Rattle.replace.specs.Choice.{any_same}
use Rattle.pool.proofs.choosing.first_spare.Goals as goal

pub returns : goal.returns
returns c =
    let old = c.args.survivors.now ++ c.args.failed.now in
    c.copied.ensures ∙ find_from_yields_List (λ s. not (any_same old s)) _ _ c.find.result c.find.ensures.ran (YieldsList-from_slice c.args.spares.now c.iter.ensures.rest) (λ x b q k. search (rules, tests))
