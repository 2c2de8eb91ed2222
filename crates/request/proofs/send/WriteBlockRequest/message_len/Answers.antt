use Rattle.std.proofs.Common.{arith}
use Rattle.request.proofs.Bounds.{write_bound}
use Rattle.request.proofs.send.WriteBlockRequest.message_len.Goals as goal

pub encoded_len-requires : goal.encoded_len-requires
encoded_len-requires c = omega (arith, write_bound c.args.self.now c.args.self.now.few)

pub returns : goal.returns
returns c = record { value = c.encoded_len.ensures; bound = omega (arith, write_bound c.args.self.now c.args.self.now.few, c.encoded_len.ensures) }
