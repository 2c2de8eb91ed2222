use Rattle.std.proofs.Common.{◌≡◌, [], ◌∷◌, ◌++◌, length, refl, ap, ◌∙◌, arith}
use Rattle.std.proofs.lemmas.List.{append_assoc}
use Rattle.std.proofs.lemmas.Bool.{cond-true, cond-false, not-true, not-false}
use Rattle.wire.proofs.Front.{start, put, one, done}
use Rattle.packet.proofs.Headers.{plain_long, header_plain, header_last}
use Rattle.packet.proofs.header.put_header.Goals as goal

pub returns-then-not-header : goal.returns-then-not-header
returns-then-not-header c =
    let h = c.args.header in
    let plain = not-true h.last c.if-not-header.true in
    let long : length c.args.out.now ≡ 25 = c.requires ∙ cond-false h.last 27 25 plain in
    let e = c.put_plain_fields.ensures in
    done (put (start c.args.out.now) 25 25 _ (ap length e ∙ plain_long h.offset h.seqno h.last h.data_len) refl (omega arith)) long
    ∙ e
    ∙ header_plain h.offset h.seqno h.last h.data_len plain

pub returns : goal.returns
returns c =
    let h = c.args.header in
    let last = not-false h.last c.if-not-header.false in
    let long : length c.args.out.now ≡ 27 = c.requires ∙ cond-true h.last 27 25 last in
    let e = c.put_plain_fields.ensures in
    let f = put (start c.args.out.now) 25 25 _ (ap length e ∙ plain_long h.offset h.seqno h.last h.data_len) refl (omega arith) in
    done (one (one f 40 (omega arith)) 1 (omega arith)) long
    ∙ append_assoc _ (40 ∷ []) (1 ∷ [])
    ∙ ap (λ z. z ++ (40 ∷ 1 ∷ [])) e
    ∙ header_last h.offset h.seqno h.last h.data_len last
