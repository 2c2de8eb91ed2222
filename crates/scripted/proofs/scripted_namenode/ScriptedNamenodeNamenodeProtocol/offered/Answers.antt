use Rattle.std.proofs.Common.{Some, sym, ap, ◌∙◌, vec_items, arith}
use Rattle.scripted.specs.Offers.{row_in}
use Rattle.namenode.proofs.Rows.{row_there, row_past}
use Rattle.scripted.proofs.scripted_namenode.ScriptedNamenodeNamenodeProtocol.offered.Goals as goal

pub returns-in_err-row : goal.returns-in_err-row
returns-in_err-row c =
    let look = rw c.deref.ensures.value at c.in_err-row.ensures.lookup in
    rw c.from_residual.ensures (sym (row_past row_in (vec_items c.args.self.now.offered.rows) c.args.position (omega (arith, look.0))))

pub returns : goal.returns
returns c =
    let look = rw c.deref.ensures.value at c.in_ok-row.ensures.lookup in
    (λ i. Some (record { info = c.as_slice.ensures.value i; storage = c.as_slice-2.ensures.value i; kind = c.in_ok-row.row.now.storage_type }))
    ∙ ap (λ r. Some (row_in r)) look.1
    ∙ sym (row_there row_in (vec_items c.args.self.now.offered.rows) c.args.position _ (omega (arith, look.0)))
