use Rattle.wire.proofs.Varints.{Sofar}
use Rattle.wire.proofs.varint.read_varint.Given as goal

abbrev pub invariant-loop-i : goal.invariant-loop-i
invariant-loop-i l = Sofar l.octets l.at l.i l.varint.low l.varint.turn
