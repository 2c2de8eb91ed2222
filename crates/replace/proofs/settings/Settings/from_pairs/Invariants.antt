use Rattle.std.proofs.Common.{◌≡◌, take}
use Rattle.replace.specs.Listed.{listed, texts}
use Rattle.replace.proofs.settings.Settings.from_pairs.Given as goal

abbrev pub invariant-loop-name : goal.invariant-loop-name
invariant-loop-name l = l.settings ≡ listed (texts (take l.name-index l.pairs))
