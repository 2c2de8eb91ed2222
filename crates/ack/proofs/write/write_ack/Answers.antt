use Rattle.std.proofs.Common.{◌-◌, ◌<◌, ◌∷◌, ◌++◌, map, length, drop, sym, refl, ap, ◌∙◌, arith}
use Rattle.std.proofs.lemmas.Bool.{lt-leb, and_right}
use Rattle.wire.specs.Fields.{varint, encode_all}
use Rattle.wire.proofs.Front.{start, put}
use Rattle.ack.specs.Written.{answer_fields, answer_octets}
use Rattle.ack.proofs.Written.{answer_bound}
use Rattle.ack.proofs.write.write_ack.Goals as goal

pub encoded_len-end-requires : goal.encoded_len-end-requires
encoded_len-end-requires c =
    let e = ap (λ z. length (encode_all (varint 1 z ∷ map (λ status. varint 2 status) c.args.replies.now))) c.zigzagged.ensures in
    omega (arith, answer_bound c.args.seqno c.args.replies.now c.if-replies-gt8.false)

pub returns-then-out-end : goal.returns-then-out-end
unfolding answer_octets
returns-then-out-end c =
    let e = ap (λ z. length (encode_all (varint 1 z ∷ map (λ status. varint 2 status) c.args.replies.now))) c.zigzagged.ensures in
    let short : length c.args.out.now < length (encode_all (answer_fields c.args.seqno c.args.replies.now)) = omega (arith, c.if-out-end.true, c.encoded_len-end.ensures) in
    (refl, and_right _ _ (lt-leb _ _ short))

pub returns : goal.returns
unfolding answer_octets
returns c =
    let m = ap (λ z. encode_all (varint 1 z ∷ map (λ status. varint 2 status) c.args.replies.now)) c.zigzagged.ensures in
    let b = c.encode.ensures ∙ m in
    let n = c.encoded_len-end.ensures ∙ ap length m in
    let f = put (start c.args.out.now) (c.encoded_len-end.result - 0) c.encoded_len-end.result c.encode.new.out (ap length b ∙ sym n ∙ omega arith) (omega arith) c.if-out-end.false in
    (n, c.if-replies-gt8.false, c.if-out-end.false, f.is ∙ (λ i. b i ++ drop c.encoded_len-end.result c.args.out.now))
