-- antt computes each checksum by the definition, bit by bit.
-- Assumes nothing.
use Rattle.std.proofs.Common.{refl}
use Rattle.crc.specs.Crc.{if_set, step, steps, after}
use Rattle.crc32c.proofs.vectors_stand.Goals as goal

pub returns : goal.returns
unfolding if_set step steps after
returns c = record { zeros = refl; ones = refl; ascending = refl; descending = refl; command = refl; digits = refl }
