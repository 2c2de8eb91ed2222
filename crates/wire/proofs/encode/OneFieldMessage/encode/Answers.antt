use Rattle.std.proofs.Common.{[], ◌∷◌, ◌++◌, length, sym, ap, ◌∙◌, arith}
use Rattle.wire.specs.Fields.{key, encode_all}
use Rattle.wire.specs.One.{one_field}
use Rattle.wire.proofs.Encoded.{fixed64_is, fixed32_is, fixed64_length, fixed32_length}
use Rattle.wire.proofs.Front.{little_8, little_4}
use Rattle.wire.proofs.encode.OneFieldMessage.encode.Goals as goal

pub put_fixed-requires : goal.put_fixed-requires
put_fixed-requires c =
    let e = ap (λ f. length (encode_all (one_field f ∷ []))) c.in-Fixed64.is in
    (omega arith, omega (arith, c.requires, e, fixed64_length c.in-Fixed64.tag c.in-Fixed64.value, ap length c.to_le_bytes.ensures))

pub put_fixed-requires-in-Fixed32 : goal.put_fixed-requires-in-Fixed32
put_fixed-requires-in-Fixed32 c =
    let e = ap (λ f. length (encode_all (one_field f ∷ []))) c.in-Fixed32.is in
    (omega arith, omega (arith, c.requires, e, fixed32_length c.in-Fixed32.tag c.in-Fixed32.value, ap length c.to_le_bytes-in-Fixed32.ensures))

pub returns-in-Fixed64 : goal.returns-in-Fixed64
returns-in-Fixed64 c =
    let e = ap (λ f. encode_all (one_field f ∷ [])) c.in-Fixed64.is in
    c.put_fixed.ensures ∙ ap (λ z. key c.in-Fixed64.tag 1 ++ z) (c.to_le_bytes.ensures ∙ little_8 c.in-Fixed64.value) ∙ sym (e ∙ fixed64_is c.in-Fixed64.tag c.in-Fixed64.value)

pub returns-in-Fixed32 : goal.returns-in-Fixed32
returns-in-Fixed32 c =
    let e = ap (λ f. encode_all (one_field f ∷ [])) c.in-Fixed32.is in
    c.put_fixed-in-Fixed32.ensures ∙ ap (λ z. key c.in-Fixed32.tag 5 ++ z) (c.to_le_bytes-in-Fixed32.ensures ∙ little_4 c.in-Fixed32.value) ∙ sym (e ∙ fixed32_is c.in-Fixed32.tag c.in-Fixed32.value)
