use Rattle.std.proofs.Common.{arith}
use Rattle.wire.proofs.Encoded.{prefix_length}
use Rattle.wire.proofs.encode.prefix_len.Goals as goal

pub returns-clause-value : goal.returns-clause-value
returns-clause-value c = omega (arith, prefix_length c.args.tag c.args.inner, c.of-key.ensures.size, c.of-size.ensures.size)
