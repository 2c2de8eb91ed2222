use Rattle.std.proofs.Common.{◌++◌, length, sym, ap, ◌∙◌, arith, rules}
use Rattle.wire.proofs.Encoded.{encode_join, join_length, in_two}
use Rattle.wire.proofs.encode.ThenMessage.encode.Goals as goal

pub encoded_len-first-requires : goal.encoded_len-first-requires
encoded_len-first-requires g c = let j = join_length (g.A.Message.fields c.args.self.now.0) (g.B.Message.fields c.args.self.now.1) in search rules

pub slice_bounds-encode-end : goal.slice_bounds-encode-end
slice_bounds-encode-end g c = let j = join_length (g.A.Message.fields c.args.self.now.0) (g.B.Message.fields c.args.self.now.1) in search rules

pub encode-requires-2 : goal.encode-requires-2
encode-requires-2 g c = let j = join_length (g.A.Message.fields c.args.self.now.0) (g.B.Message.fields c.args.self.now.1) in search rules

pub returns : goal.returns
returns g c =
    let j = join_length (g.A.Message.fields c.args.self.now.0) (g.B.Message.fields c.args.self.now.1) in
    let a = c.encode.ensures in
    let b = c.encode-2.ensures in
    let n = c.encoded_len-first.ensures in
    in_two c.args.out.now c.encode.new.out c.encode-2.new.out _ (ap length a ∙ sym n) (omega (arith, c.requires, ap length b))
    ∙ (λ i. a i ++ b i)
    ∙ sym (encode_join _ _)
