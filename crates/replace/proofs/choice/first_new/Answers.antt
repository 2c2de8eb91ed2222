use Rattle.std.proofs.Common.{not, rules, tests}
use Rattle.std.proofs.lemmas.Iterator.{YieldsList-from_slice}
use Rattle.std.proofs.lemmas.Iterator.Search.{position_from_yields_List}
use Rattle.replace.specs.Choice.{any_same}
use Rattle.replace.proofs.Scans.{first_is}
use Rattle.replace.proofs.choice.first_new.Goals as goal

pub returns : goal.returns
returns c =
    let ns = c.args.list.now in
    let os = c.args.old.now in
    first_is ns os c.position.result (position_from_yields_List (λ n. not (any_same os n)) _ _ c.position.result c.position.ensures.ran (YieldsList-from_slice ns c.iter.ensures.rest) (λ x b q k. search (rules, tests)))
