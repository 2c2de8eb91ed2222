use Rattle.std.proofs.Common.{◌++◌, length, refl, ap, ◌∙◌, arith}
use Rattle.wire.proofs.Front.{start, put, done, big_4, big_2}
use Rattle.packet.specs.Frame.{lengths}
use Rattle.packet.proofs.frame.put_lengths.Goals as goal

pub returns : goal.returns
unfolding lengths
returns c =
    let a = c.copy_from_slice.ensures.after ∙ c.to_be_bytes.ensures ∙ big_4 c.args.whole in
    let b = c.copy_from_slice-2.ensures.after ∙ c.to_be_bytes-2.ensures ∙ big_2 c.args.head in
    done (put (put (start c.args.out.now) 4 4 _ (ap length a) refl (omega arith)) 2 6 _ (ap length b) refl (omega arith)) c.requires
    ∙ (λ i. a i ++ b i)
