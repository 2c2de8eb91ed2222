use Rattle.std.proofs.Common.{arith}
use Rattle.request.proofs.Bounds.{transfer_bound}
use Rattle.request.proofs.send.TransferBlockRequest.message_len.Goals as goal

pub encoded_len-requires : goal.encoded_len-requires
encoded_len-requires c = omega (arith, transfer_bound c.args.self.now)

pub returns : goal.returns
returns c = record { value = c.encoded_len.ensures; bound = omega (arith, transfer_bound c.args.self.now, c.encoded_len.ensures) }
