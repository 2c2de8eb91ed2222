use Rattle.ack.proofs.Walks.{Sofar}
use Rattle.ack.proofs.packed.push_packed.Given as goal

abbrev pub invariant-loop-b : goal.invariant-loop-b
invariant-loop-b g l = Sofar g.R.Repeated.pushed g.R.Repeated.size l.part l.initial.values l.b-index l.varint.low l.varint.turn l.values
