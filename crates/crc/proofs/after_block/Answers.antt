use Rattle.crc.proofs.Slices.{block_read}
use Rattle.crc.proofs.after_block.Goals as goal

pub returns : goal.returns
returns g c = let e = block_read g.P.Polynomial.poly c.args.v c.args.d.now c.requires in cc
