use Rattle.wire.proofs.Groups.{Writing}
use Rattle.wire.proofs.varint.EncodedVarint.of.Given as goal

abbrev pub invariant-loop-rest : goal.invariant-loop-rest
invariant-loop-rest l = Writing l.value l.octets l.len l.rest

abbrev pub decreases-loop-rest : goal.decreases-loop-rest
decreases-loop-rest l = l.rest
