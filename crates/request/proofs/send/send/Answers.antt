use Rattle.std.proofs.Common.{◌+◌, ◌-◌, [], ◌∷◌, ◌++◌, length, drop, refl, ap, ◌∙◌, arith}
use Rattle.std.proofs.lemmas.List.{length-append}
use Rattle.wire.specs.Fields.{varint_bytes, encode_all}
use Rattle.wire.proofs.Front.{start, put, one}
use Rattle.request.proofs.send.send.Goals as goal

pub returns-then-out-end : goal.returns-then-out-end
returns-then-out-end g c =
    let m = encode_all (g.R.Message.fields c.args.request.now) in
    let n = c.message_len-inner.ensures.value in
    let e = ap (λ z. length (varint_bytes z)) n in
    let l = length-append (varint_bytes (length m)) m in
    record {
      written = (omega (arith, c.if-out-end.true, c.len-from.ensures, c.of-size.ensures.size, n, e, l), refl);
      suffices = λ h. absurd (omega (arith, c.if-out-end.true, c.len-from.ensures, c.of-size.result.some, c.message_len-inner.ensures.bound));
    }

pub returns : goal.returns
returns g c =
    let m = encode_all (g.R.Message.fields c.args.request.now) in
    let n = c.message_len-inner.ensures.value in
    let e = ap (λ z. length (varint_bytes z)) n in
    let l = length-append (varint_bytes (length m)) m in
    let v = c.copy_from_slice.ensures.after ∙ c.to_be_bytes.ensures in
    let o = c.op.ensures in
    let s = c.copy_from_slice-2.ensures.after ∙ c.as_slice.ensures.value ∙ c.of-size.ensures.value ∙ ap varint_bytes n in
    let b = c.encode.ensures in
    let q = c.len-from.ensures ∙ c.of-size.ensures.size ∙ e in
    let f1 = put (start c.args.out.now) 2 2 _ (ap length v) refl (omega (arith, c.if-out-end.false)) in
    let f2 = one f1 c.op.result (omega (arith, c.if-out-end.false)) in
    let f3 = put f2 (3 + c.len-from.result - 3) (3 + c.len-from.result) c.copy_from_slice-2.new.self (ap length s ∙ omega (arith, q)) (omega arith) (omega (arith, c.if-out-end.false)) in
    let f4 = put f3 (3 + c.len-from.result + c.message_len-inner.result - (3 + c.len-from.result)) (3 + c.len-from.result + c.message_len-inner.result) c.encode.new.out (ap length b ∙ omega (arith, n)) (omega arith) c.if-out-end.false in
    record {
      written = (
        omega (arith, q, n, l),
        c.if-out-end.false,
        f4.is
            ∙ (λ i. (((v i ++ (o i ∷ [])) ++ s i) ++ b i) ++ drop (3 + c.len-from.result + c.message_len-inner.result) c.args.out.now),
      );
      suffices = λ h. refl;
    }
