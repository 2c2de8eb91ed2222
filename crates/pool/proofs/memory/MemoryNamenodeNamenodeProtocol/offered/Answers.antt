use Rattle.std.proofs.Common.{Some, sym, ap, ◌∙◌, arith}
use Rattle.pool.specs.Books.{row_for}
use Rattle.namenode.proofs.Rows.{row_there, row_past}
use Rattle.pool.proofs.memory.MemoryNamenodeNamenodeProtocol.offered.Goals as goal

pub returns-in_err-get : goal.returns-in_err-get
returns-in_err-get g c =
    let look = rw c.offered.ensures at c.in_err-get.ensures.lookup in
    rw c.from_residual.ensures (sym (row_past row_for (g.S.Spares.handed c.args.self.now.spares) c.args.position (omega (arith, look.0))))

pub returns : goal.returns
returns g c =
    let look = rw c.offered.ensures at c.in_ok-get.ensures.lookup in
    c.hand_out.ensures
    ∙ ap (λ d. Some (row_for d)) look.1
    ∙ sym (row_there row_for (g.S.Spares.handed c.args.self.now.spares) c.args.position _ (omega (arith, look.0)))
