use Rattle.runs.specs.History.{History}
use Rattle.runs.specs.Runs.{point_of}
use Rattle.runs.proofs.Clients.{Sofar}
use Rattle.runs.proofs.client.run.Given as goal

abbrev pub invariant-calls : goal.invariant-calls
invariant-calls g l =
    (h : History) → Sofar g.C.Link g.N.NamenodeProtocol g.C.Chain.seen (point_of h l.fn.writer l.fn.store l.fn.link l.fn.namenode) l.fn.commands l.fn.outcomes l.i
    (λ k. point_of k l.writer l.store l.link l.namenode) l.outcomes
