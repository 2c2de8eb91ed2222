use Rattle.std.proofs.Common.{length, ap, arith, rules}
use Rattle.wire.proofs.Encoded.{left_length, none_left}
use Rattle.wire.proofs.encode.EachMessage.encoded_len.Goals as goal

pub field_len-size-requires : goal.field_len-size-requires
field_len-size-requires g c = let l = left_length g.F.FieldOf.field c.args.self.now.rows.now c.loop-row.row-index c.row-item.result c.loop-row-test.true c.row-item.is in omega (arith, c.loop-row.invariant, c.requires)

pub overflow_add-size : goal.overflow_add-size
overflow_add-size g c = let l = left_length g.F.FieldOf.field c.args.self.now.rows.now c.loop-row.row-index c.row-item.result c.loop-row-test.true c.row-item.is in let n = c.field_len-size.ensures in let i = c.loop-row.invariant in search rules

pub loop-row-preserved : goal.loop-row-preserved
loop-row-preserved g c = let l = left_length g.F.FieldOf.field c.args.self.now.rows.now c.loop-row.row-index c.row-item.result c.loop-row-test.true c.row-item.is in omega (arith, c.loop-row.invariant, c.field_len-size.ensures)

pub returns : goal.returns
returns g c = omega (arith, c.loop-row.invariant, ap length (none_left g.F.FieldOf.field c.args.self.now.rows.now c.loop-row.row-index c.loop-row-test.false))
