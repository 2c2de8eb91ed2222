use Rattle.std.proofs.Common.{◌+◌, ◌-◌, ◌++◌, map, length, take, sym, ap, ◌∙◌, subst, arith, rules}
use Rattle.wire.specs.Fields.{encode_all}
use Rattle.wire.proofs.Front.{Front, start, put, renamed}
use Rattle.wire.proofs.Encoded.{left_length, rows_done, nothing}
use Rattle.wire.proofs.encode.EachMessage.encode.Goals as goal

pub loop-row-init : goal.loop-row-init
loop-row-init g c = (subst (λ z. Front c.args.out.now 0 z c.args.out.now) (sym nothing) (start c.args.out.now), omega (arith, c.requires))

pub field_len-requires : goal.field_len-requires
field_len-requires g c = let l = left_length g.F.FieldOf.field c.args.self.now.rows.now c.loop-row.row-index c.row-item.result c.loop-row-test.true c.row-item.is in let i = c.loop-row.invariant.1 in search rules

pub overflow_add-next : goal.overflow_add-next
overflow_add-next g c = let l = left_length g.F.FieldOf.field c.args.self.now.rows.now c.loop-row.row-index c.row-item.result c.loop-row-test.true c.row-item.is in let n = c.field_len.ensures in let i = c.loop-row.invariant.1 in search rules

pub slice_bounds-put_field-end : goal.slice_bounds-put_field-end
slice_bounds-put_field-end g c = let l = left_length g.F.FieldOf.field c.args.self.now.rows.now c.loop-row.row-index c.row-item.result c.loop-row-test.true c.row-item.is in let n = c.field_len.ensures in let i = c.loop-row.invariant.1 in search rules

pub loop-row-preserved : goal.loop-row-preserved
loop-row-preserved g c =
    let l = left_length g.F.FieldOf.field c.args.self.now.rows.now c.loop-row.row-index c.row-item.result c.loop-row-test.true c.row-item.is in
    let n = c.field_len.ensures in
    let i = c.loop-row.invariant.1 in
    let w = c.put_field.ensures in
    let f = put c.loop-row.invariant.0 (c.loop-row.at + c.field_len.result - c.loop-row.at) (c.loop-row.at + c.field_len.result) c.put_field.new.out (ap length w ∙ omega arith) (omega arith) (omega arith) in (
      renamed f _ (ap (λ z. encode_all (map g.F.FieldOf.field (take c.loop-row.row-index c.args.self.now.rows.now)) ++ z) w ∙ sym (rows_done g.F.FieldOf.field c.args.self.now.rows.now c.loop-row.row-index c.row-item.result c.loop-row-test.true c.row-item.is)),
      omega arith,
    )
