use Rattle.std.proofs.Common.{arith}
use Rattle.wire.proofs.Encoded.{part_length}
use Rattle.wire.proofs.encode.BytesMessage.encoded_len.Goals as goal

pub returns : goal.returns
returns c = omega (arith, part_length c.args.self.now.tag c.args.self.now.bytes.now, c.prefix_len.ensures.value)
