use Rattle.std.proofs.Common.{◌<◌, ◌≤◌, length, is_some, vec_items, sym, ap, subst, arith}
use Rattle.std.proofs.lemmas.List.{length_push}
use Rattle.pipeline.specs.Offers.{row_in, RowsRead}
use Rattle.pipeline.proofs.Reading.{out_of_form, goes_on, one_more, all_read}
use Rattle.writer.specs.Opening.{rows_in}
use Rattle.writer.proofs.Listing.{rows_long}
use Rattle.writer.proofs.opening.Opening.read_nodes.Goals as goal

pub returns-in_err-node : goal.returns-in_err-node
returns-in_err-node c =
    let o = c.args.self in
    let rows = rows_in o in
    let h : c.loop-i.i < length rows = omega (arith, c.loop-i-test.true, rows_long o.infos.now o.storage_ids.now o.storage_types.now c.requires.storage_ids_len.0 c.requires.storage_ids_len.1) in
    let x = row_in c.row.result in
    record {
      rows =
          subst (λ r. RowsRead rows (vec_items c.loop-i.list.rows) (is_some r)) (sym c.from_residual.ensures)
          (out_of_form rows c.loop-i.i x h c.row.ensures c.loop-i.invariant.1 c.in_err-node.ensures);
      count = omega (arith, c.loop-i.list.rows.ok.0, c.loop-i.invariant.2, c.loop-i-test.true);
    }

pub loop-i-preserved : goal.loop-i-preserved
loop-i-preserved c =
    let o = c.args.self in
    let rows = rows_in o in
    let i = c.loop-i.i in
    let h : i < length rows = omega (arith, c.loop-i-test.true, rows_long o.infos.now o.storage_ids.now o.storage_types.now c.requires.storage_ids_len.0 c.requires.storage_ids_len.1) in
    let x = row_in c.row.result in
    let e = c.row.ensures in
    let inv = c.loop-i.invariant in
    let ds = vec_items c.loop-i.list.rows in
    let d = c.in_ok-node.node in
    let n = c.in_ok-node.ensures in
    let p = c.push.ensures.items in (
      one_more rows i x h e inv.1 ds (vec_items c.push.new.self.rows) d inv.0 n.1 p,
      goes_on rows i x h e inv.1 n.0,
      omega (arith, ap length p, length_push ds d, inv.2, c.push.new.self.rows.ok.0, c.loop-i.list.rows.ok.0),
    )

pub returns : goal.returns
returns c =
    let o = c.args.self in
    let rows = rows_in o in
    let long = rows_long o.infos.now o.storage_ids.now o.storage_types.now c.requires.storage_ids_len.0 c.requires.storage_ids_len.1 in
    let h : length rows ≤ c.loop-i.i = omega (arith, c.loop-i-test.false, long) in
    record {
      rows = all_read rows c.loop-i.i (vec_items c.loop-i.list.rows) h c.loop-i.invariant.1 c.loop-i.invariant.0;
      count = omega (arith, c.loop-i.list.rows.ok.0, c.loop-i.invariant.2, c.loop-i.auto.i-end);
    }
