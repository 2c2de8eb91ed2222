use Rattle.std.proofs.Common.{sym, ◌∙◌, rules}
use Rattle.crc.proofs.Slices.{packed_four}
use Rattle.crc.proofs.word.Goals as goal

pub returns : goal.returns
returns c =
    c.from_le_bytes.ensures
    ∙ sym (packed_four c.args.d.now c.args.i c.requires (search rules) (search rules) (search rules) (search rules))
