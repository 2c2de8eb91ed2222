use Rattle.std.proofs.Common.{[], ◌∷◌, length, ap, arith}
use Rattle.wire.specs.Fields.{encode_all}
use Rattle.wire.specs.One.{one_field}
use Rattle.wire.proofs.Encoded.{fixed64_length, fixed32_length}
use Rattle.wire.proofs.encode.OneFieldMessage.encoded_len.Goals as goal

pub returns-in-Fixed64 : goal.returns-in-Fixed64
returns-in-Fixed64 c = omega (arith, ap (λ f. length (encode_all (one_field f ∷ []))) c.in-Fixed64.is, fixed64_length c.in-Fixed64.tag c.in-Fixed64.value, c.key_len.ensures.value)

pub returns-in-Fixed32 : goal.returns-in-Fixed32
returns-in-Fixed32 c = omega (arith, ap (λ f. length (encode_all (one_field f ∷ []))) c.in-Fixed32.is, fixed32_length c.in-Fixed32.tag c.in-Fixed32.value, c.key_len-in-Fixed32.ensures.value)
