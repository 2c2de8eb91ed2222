use Rattle.std.proofs.Common.{◌++◌, length, sym, ap, ◌∙◌, arith, rules}
use Rattle.wire.specs.Fields.{prefix, encode_all}
use Rattle.wire.proofs.Encoded.{part_is, part_length, in_two}
use Rattle.wire.proofs.encode.NestedMessage.encode.Goals as goal

pub encoded_len-inner-requires : goal.encoded_len-inner-requires
encoded_len-inner-requires g c = let j = part_length c.args.self.now.tag (encode_all (g.M.Message.fields c.args.self.now.message)) in search rules

pub slice_bounds-put_prefix-end : goal.slice_bounds-put_prefix-end
slice_bounds-put_prefix-end g c = let j = part_length c.args.self.now.tag (encode_all (g.M.Message.fields c.args.self.now.message)) in let n = c.encoded_len-inner.ensures in let p = ap (λ z. length (prefix c.args.self.now.tag z)) n in search rules

pub encode-requires : goal.encode-requires
encode-requires g c = let j = part_length c.args.self.now.tag (encode_all (g.M.Message.fields c.args.self.now.message)) in let n = c.encoded_len-inner.ensures in let p = ap (λ z. length (prefix c.args.self.now.tag z)) n in search rules

pub returns : goal.returns
returns g c =
    let j = part_length c.args.self.now.tag (encode_all (g.M.Message.fields c.args.self.now.message)) in
    let n = c.encoded_len-inner.ensures in
    let p = ap (λ z. length (prefix c.args.self.now.tag z)) n in
    let a = c.put_prefix.ensures ∙ ap (prefix c.args.self.now.tag) n in
    let b = c.encode.ensures in
    in_two c.args.out.now _ _ _ (ap length a ∙ sym p ∙ sym c.prefix_len-from.ensures.value) (omega (arith, c.requires, c.prefix_len-from.ensures.value, ap length b))
    ∙ (λ i. a i ++ b i)
    ∙ sym (part_is c.args.self.now.tag (encode_all (g.M.Message.fields c.args.self.now.message)))
