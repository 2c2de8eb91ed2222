use Rattle.held.proofs.Records.{sizes_set}
use Rattle.held.proofs.table.HeldTable.note.Goals as goal

pub returns-then-i-len : goal.returns-then-i-len
returns-then-i-len c = sizes_set c.args.self.now.records.items c.args.i c.args.len
