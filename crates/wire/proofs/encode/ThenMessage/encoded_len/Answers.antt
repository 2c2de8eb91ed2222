use Rattle.std.proofs.Common.{arith, rules}
use Rattle.wire.proofs.Encoded.{join_length}
use Rattle.wire.proofs.encode.ThenMessage.encoded_len.Goals as goal

pub encoded_len-requires : goal.encoded_len-requires
encoded_len-requires g c = omega (arith, c.requires, join_length (g.A.Message.fields c.args.self.now.0) (g.B.Message.fields c.args.self.now.1))

pub encoded_len-requires-2 : goal.encoded_len-requires-2
encoded_len-requires-2 g c = omega (arith, c.requires, join_length (g.A.Message.fields c.args.self.now.0) (g.B.Message.fields c.args.self.now.1))

pub overflow_add-result : goal.overflow_add-result
overflow_add-result g c = let j = join_length (g.A.Message.fields c.args.self.now.0) (g.B.Message.fields c.args.self.now.1) in search rules

pub returns : goal.returns
returns g c = let j = join_length (g.A.Message.fields c.args.self.now.0) (g.B.Message.fields c.args.self.now.1) in omega (arith, c.encoded_len.ensures, c.encoded_len-2.ensures)
