use Rattle.std.proofs.Common.{arith}
use Rattle.wire.proofs.Encoded.{number_length}
use Rattle.wire.proofs.encode.UintMessage.encoded_len.Goals as goal

pub returns : goal.returns
returns c = omega (arith, number_length c.args.self.now.tag c.args.self.now.value, c.of-key.ensures.size, c.of-value.ensures.size)
