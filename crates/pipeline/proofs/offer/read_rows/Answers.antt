use Rattle.std.proofs.Common.{◌<◌, ◌≤◌, length, is_some, vec_items, sym, ap, subst, ◌∙◌, arith}
use Rattle.std.proofs.lemmas.List.{length_push}
use Rattle.pipeline.specs.Offers.{row_in, RowsRead}
use Rattle.pipeline.proofs.Reading.{found, missing, out_of_form, goes_on, one_more, all_read}
use Rattle.pipeline.proofs.offer.read_rows.Goals as goal

pub returns-in_err-offered : goal.returns-in_err-offered
returns-in_err-offered g c =
    let rows = (g.N.NamenodeProtocol.offer c.args.namenode.now).rows in
    absurd (missing rows c.loop-i.i c.in_err-offered.ensures (omega (arith, c.loop-i-test.true, c.offered_len-i-end.ensures)))

pub returns-in_err-node : goal.returns-in_err-node
returns-in_err-node g c =
    let rows = (g.N.NamenodeProtocol.offer c.args.namenode.now).rows in
    let h : c.loop-i.i < length rows = omega (arith, c.loop-i-test.true, c.offered_len-i-end.ensures) in
    let x = row_in c.in_ok-offered.field-0 in
    record {
      rows =
          subst (λ o. RowsRead rows (vec_items c.loop-i.list.rows) (is_some o)) (sym c.from_residual-in_err-node.ensures)
          (out_of_form rows c.loop-i.i x h (found rows c.loop-i.i x c.in_ok-offered.ensures) c.loop-i.invariant.1 c.in_err-node.ensures);
      capacity = c.loop-i.invariant.3 ∙ c.clear.ensures.capacity;
    }

pub loop-i-preserved : goal.loop-i-preserved
loop-i-preserved g c =
    let rows = (g.N.NamenodeProtocol.offer c.args.namenode.now).rows in
    let i = c.loop-i.i in
    let h : i < length rows = omega (arith, c.loop-i-test.true, c.offered_len-i-end.ensures) in
    let x = row_in c.in_ok-offered.field-0 in
    let e = found rows i x c.in_ok-offered.ensures in
    let inv = c.loop-i.invariant in
    let ds = vec_items c.loop-i.list.rows in
    let d = c.in_ok-node.node in
    let n = c.in_ok-node.ensures in
    let p = c.push.ensures.items in
    (one_more rows i x h e inv.1 ds (vec_items c.push.new.self.rows) d inv.0 n.1 p, goes_on rows i x h e inv.1 n.0, omega (arith, ap length p, length_push ds d, inv.2), c.push.ensures.capacity ∙ inv.3)

pub returns : goal.returns
returns g c =
    let rows = (g.N.NamenodeProtocol.offer c.args.namenode.now).rows in
    let h : length rows ≤ c.loop-i.i = omega (arith, c.loop-i-test.false, c.offered_len-i-end.ensures) in
    record {
      rows = all_read rows c.loop-i.i (vec_items c.loop-i.list.rows) h c.loop-i.invariant.1 c.loop-i.invariant.0;
      capacity = c.loop-i.invariant.3 ∙ c.clear.ensures.capacity;
    }
