use Rattle.std.proofs.Common.{◌≡◌, ◌+◌, length, take, vec_items, sym, ap, ◌∙◌, arith}
use Rattle.std.proofs.lemmas.List.{take_all}
use Rattle.pipeline.proofs.Placing.{next, longer}
use Rattle.pipeline.proofs.nodes.NodeTable.overwrite.Goals as goal

pub loop-i-preserved : goal.loop-i-preserved
loop-i-preserved c =
    let xs = vec_items c.loop-i.self.rows in
    let x = c.index-list-i.result in
    let e = c.put.ensures.items in
    let h = c.loop-i-test.true in
    let inv = c.loop-i.invariant in
    let m = longer xs c.args.list.now c.loop-i.i x h c.index-list-i.is inv.0 (omega arith) in
    (ap (take (c.loop-i.i + 1)) e ∙ next xs c.args.list.now c.loop-i.i x h c.index-list-i.is inv.0 (omega arith), omega (arith, ap length e, m), c.put.ensures.capacity ∙ inv.2)

pub returns : goal.returns
returns c =
    let inv = c.loop-i.invariant in
    let n = length c.args.list.now in
    record {
      items = c.truncate.ensures.items ∙ sym (ap (λ k. take k (vec_items c.loop-i.self.rows)) (let i : c.loop-i.i ≡ n = omega arith in i)) ∙ inv.0 ∙ take_all c.loop-i.i c.args.list.now (omega arith);
      capacity = c.truncate.ensures.capacity ∙ inv.2;
    }
