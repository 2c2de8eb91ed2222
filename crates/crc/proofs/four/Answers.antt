use Rattle.std.proofs.Common.{rules}
use Rattle.crc.proofs.Slices.{four_read}
use Rattle.crc.proofs.four.Goals as goal

pub returns : goal.returns
returns g c =
    four_read g.P.Polynomial.poly c.table-t.result.now c.table-t.ensures c.args.k c.args.w (search rules) (search rules)
