use Rattle.std.proofs.Common.{◌≡◌, cond, [], ◌∷◌, ◌++◌, length, sym, refl, ap, ◌∙◌, arith}
use Rattle.wire.proofs.Front.{start, put, one, done, little_8, little_4}
use Rattle.packet.proofs.Headers.{plain_is, one_bit}
use Rattle.packet.proofs.header.put_plain_fields.Goals as goal

pub returns : goal.returns
returns c =
    let h = c.args.header in
    let a = c.copy_from_slice.ensures.after ∙ c.to_le_bytes.ensures ∙ little_8 h.offset in
    let b = c.copy_from_slice-2.ensures.after ∙ c.to_le_bytes-2.ensures ∙ little_8 h.seqno in
    let d = c.copy_from_slice-3.ensures.after ∙ c.to_le_bytes-3.ensures ∙ little_4 h.data_len in
    let last : c.from.result ≡ cond c.args.header.last 1 0 = c.from.ensures ∙ one_bit c.args.header.last in
    let f1 = put (one (start c.args.out.now) 9 (omega arith)) 8 9 _ (ap length a) refl (omega arith) in
    let f2 = put (one f1 17 (omega arith)) 8 18 _ (ap length b) refl (omega arith) in
    let f3 = one (one (one f2 24 (omega arith)) c.from.result (omega arith)) 37 (omega arith) in
    done (put f3 4 25 _ (ap length d) refl (omega arith)) c.requires
    ∙ (λ i. (((((((9 ∷ []) ++ a i) ++ 17 ∷ []) ++ b i) ++ 24 ∷ []) ++ last i ∷ []) ++ 37 ∷ []) ++ d i)
    ∙ sym (plain_is h.offset h.seqno h.last h.data_len)
