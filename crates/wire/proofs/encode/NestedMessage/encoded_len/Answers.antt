use Rattle.std.proofs.Common.{length, ap, arith, rules}
use Rattle.wire.specs.Fields.{prefix, encode_all}
use Rattle.wire.proofs.Encoded.{part_length}
use Rattle.wire.proofs.encode.NestedMessage.encoded_len.Goals as goal

pub encoded_len-inner-requires : goal.encoded_len-inner-requires
encoded_len-inner-requires g c = let j = part_length c.args.self.now.tag (encode_all (g.M.Message.fields c.args.self.now.message)) in omega (arith, c.requires)

pub overflow_add-result : goal.overflow_add-result
overflow_add-result g c = let j = part_length c.args.self.now.tag (encode_all (g.M.Message.fields c.args.self.now.message)) in let n = c.encoded_len-inner.ensures in let p = ap (λ z. length (prefix c.args.self.now.tag z)) n in let q = c.prefix_len.ensures.value in search rules

pub returns : goal.returns
returns g c = let j = part_length c.args.self.now.tag (encode_all (g.M.Message.fields c.args.self.now.message)) in let n = c.encoded_len-inner.ensures in let p = ap (λ z. length (prefix c.args.self.now.tag z)) n in omega (arith, n, c.prefix_len.ensures.value)
