use Rattle.runs.proofs.Every.{every}
use Rattle.runs.proofs.law.law_stands.Goals as goal

pub returns : goal.returns
returns g c o link p q cs os b run =
    let m = g.met.C.Chain in
    let n = g.met.N.Namenode in
    every g.C.Link g.N.NamenodeProtocol g.C.Chain.seen g.N.Namenode.entry
    (record { setting = m.setting; putting = m.putting; answering = m.answering; transferring = m.transferring })
    (record { listing = n.listing; stamping = n.stamping; updating = n.updating }) o link p b cs os q run
