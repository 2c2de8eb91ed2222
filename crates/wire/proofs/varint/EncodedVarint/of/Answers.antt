use Rattle.std.proofs.Common.{refl, arith}
use Rattle.wire.proofs.Groups.{writing, marked, more}
use Rattle.wire.proofs.varint.EncodedVarint.of.Goals as goal

pub loop-rest-init : goal.loop-rest-init
loop-rest-init c = writing c.args.value _ refl (omega arith)

pub loop-rest-preserved : goal.loop-rest-preserved
loop-rest-preserved c = more c.loop-rest.invariant _ c.loop-rest-test.true (marked c.loop-rest.rest)
