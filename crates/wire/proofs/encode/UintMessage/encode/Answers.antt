use Rattle.std.proofs.Common.{◌++◌, sym, ◌∙◌, arith}
use Rattle.wire.proofs.Encoded.{number_is, number_length}
use Rattle.wire.proofs.encode.UintMessage.encode.Goals as goal

pub put_pair-requires : goal.put_pair-requires
put_pair-requires c = omega (arith, c.requires, number_length c.args.self.now.tag c.args.self.now.value, c.of-key.ensures.size, c.of-value.ensures.size, c.as_slice.ensures.size, c.as_slice-2.ensures.size)

pub returns : goal.returns
returns c =
    let a = c.as_slice.ensures.value ∙ c.of-key.ensures.value in
    let b = c.as_slice-2.ensures.value ∙ c.of-value.ensures.value in
    c.put_pair.ensures ∙ (λ i. a i ++ b i) ∙ sym (number_is c.args.self.now.tag c.args.self.now.value)
