use Rattle.std.proofs.Common.{◌≡◌, ◌+◌, ◌-◌, ◌++◌, length, sym, refl, ap, ◌∙◌, arith}
use Rattle.wire.proofs.Front.{start, put, done}
use Rattle.packet.specs.Frame.{lengths}
use Rattle.packet.specs.Header.{header_of}
use Rattle.packet.specs.Reading.{front_of}
use Rattle.packet.proofs.Frames.{lengths_long}
use Rattle.packet.proofs.Headers.{header_long}
use Rattle.packet.proofs.read.put_front.Goals as goal

pub returns : goal.returns
unfolding front_of
returns c =
    let h = c.args.header in
    let n = c.header_len-head.result in
    let long = header_long h.offset h.seqno h.last h.data_len in
    let a = c.put_lengths.ensures in
    let b = c.put_header.ensures in
    let k : length c.put_header.new.out ≡ 6 + n - 6 = ap length b ∙ long ∙ omega (arith, c.header_len-head.ensures.value) in
    let f1 = put (start c.args.out.now) 6 6 c.put_lengths.new.out (ap length a ∙ lengths_long _ _) refl (omega arith) in
    let f2 = put f1 (6 + n - 6) (6 + n) c.put_header.new.out k (omega arith) (omega (arith, c.requires, c.header_len-head.ensures.value)) in
    done f2 (omega (arith, c.requires, c.header_len-head.ensures.value))
    ∙ (λ i. a i ++ b i)
    ∙ ap (λ m. lengths c.args.whole m ++ header_of h) (c.header_len-head.ensures.value ∙ sym long)
