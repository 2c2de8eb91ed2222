use Rattle.std.proofs.Common.{◌++◌, length, sym, ap, ◌∙◌, arith, rules}
use Rattle.wire.proofs.Encoded.{part_is, part_length, in_two}
use Rattle.wire.proofs.encode.BytesMessage.encode.Goals as goal

pub slice_bounds-put_prefix-end : goal.slice_bounds-put_prefix-end
slice_bounds-put_prefix-end c = let j = part_length c.args.self.now.tag c.args.self.now.bytes.now in search rules

pub copy_from_slice-requires : goal.copy_from_slice-requires
copy_from_slice-requires c = let j = part_length c.args.self.now.tag c.args.self.now.bytes.now in search rules

pub returns : goal.returns
returns c =
    let j = part_length c.args.self.now.tag c.args.self.now.bytes.now in
    let a = c.put_prefix.ensures in
    let b = c.copy_from_slice.ensures.after in
    in_two c.args.out.now _ _ _ (ap length a ∙ sym c.prefix_len-from.ensures.value) (omega (arith, c.requires, c.prefix_len-from.ensures.value, ap length b))
    ∙ (λ i. a i ++ b i)
    ∙ sym (part_is c.args.self.now.tag c.args.self.now.bytes.now)
