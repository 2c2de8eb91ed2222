use Rattle.std.proofs.Common.{rules}
use Rattle.writer.specs.Admits.{lengths_of}
use Rattle.writer.proofs.Lent.{never_short}
use Rattle.writer.proofs.buffers.Buffers.new.Goals as goal

pub returns-clause-opens : goal.returns-clause-opens
returns-clause-opens c o chunk packet few =
    never_short o (lengths_of c.in_ok-vec.field-0.items c.in_ok-vec-2.field-0.items c.in_ok-vec-3.field-0.items c.in_ok-vec-4.field-0.items)
    c.args.slots c.args.size.chunk c.args.size.packet chunk packet few (search rules) (search rules) (search rules) (search rules)
