-- The table is what the definition gives: antt computes all of its 4,096 entries, row from row, and compares.
-- Assumes nothing.
use Rattle.std.proofs.Common.{refl}
use Rattle.crc.specs.Crc.{if_set, step, steps, entry, row}
use Rattle.crc.proofs.Rows.{onward, onwards, twice, by_rows, table_by_rows}
use Rattle.crc32c.proofs.CastagnoliPolynomial.table.Goals as goal

pub returns : goal.returns
unfolding if_set step steps entry row onward onwards twice by_rows
returns c = table_by_rows 0x82F63B78 refl
