use Rattle.std.proofs.Common.{◌++◌, sym, ◌∙◌, arith}
use Rattle.wire.proofs.Encoded.{prefix_is, prefix_length}
use Rattle.wire.proofs.encode.put_prefix.Goals as goal

pub put_pair-requires : goal.put_pair-requires
put_pair-requires c = omega (arith, c.requires, prefix_length c.args.tag c.args.inner, c.of-key.ensures.size, c.of-size.ensures.size, c.as_slice.ensures.size, c.as_slice-2.ensures.size)

pub returns : goal.returns
returns c =
    let a = c.as_slice.ensures.value ∙ c.of-key.ensures.value in
    let b = c.as_slice-2.ensures.value ∙ c.of-size.ensures.value in
    c.put_pair.ensures ∙ (λ i. a i ++ b i) ∙ sym (prefix_is c.args.tag c.args.inner)
