use Rattle.std.proofs.Common.{◌≡◌, ℕ, ◌+◌, ◌-◌, ◌<◌, ◌≤◌, eqb, leb, length, ap, ◌∙◌, arith}
use Rattle.std.proofs.lemmas.Bool.Decides.{nat_tests}
use Rattle.wire.specs.Fields.{encode}
use Rattle.wire.specs.Read.{wire}
use Rattle.wire.proofs.Encoded.{varint_octets, fixed64_octets, part_octets, fixed32_octets}
use Rattle.wire.proofs.field.Field.is_shortest.Goals as goal

shifted : (a b n : ℕ) → n ≤ a → eqb (a - n) b ≡ eqb a (b + n)
shifted a b n h = grind (arith, nat_tests)

short : (a n m : ℕ) → a < n → n ≤ m → leb n a ≡ eqb a m
short a n m h k = grind (arith, nat_tests)

pub returns-in-Varint : goal.returns-in-Varint
returns-in-Varint c =
    let e = ap (λ z. length (encode (wire z))) c.in-Varint.is in
    ap (eqb c.args.octets) (omega (arith, varint_octets c.in-Varint.tag c.in-Varint.value, c.key_len.ensures.value, c.len.ensures, c.of.ensures.size))

pub returns-in-Fixed64 : goal.returns-in-Fixed64
returns-in-Fixed64 c =
    let e = ap (λ z. length (encode (wire z))) c.in-Fixed64.is in
    ap (eqb c.args.octets) (omega (arith, fixed64_octets c.in-Fixed64.tag c.in-Fixed64.value, c.key_len-in-Fixed64.ensures.value))

pub returns-then-octets-bytes : goal.returns-then-octets-bytes
returns-then-octets-bytes c =
    let e = ap (λ z. length (encode (wire z))) c.in-Part.is in
    shifted c.args.octets c.prefix_len.result (length c.in-Part.bytes.now) c.if-octets-bytes.true
    ∙ ap (eqb c.args.octets) (omega (arith, part_octets c.in-Part.tag c.in-Part.bytes.now, c.prefix_len.ensures.value))

pub returns-else-octets-bytes : goal.returns-else-octets-bytes
returns-else-octets-bytes c =
    let e = ap (λ z. length (encode (wire z))) c.in-Part.is in
    short c.args.octets (length c.in-Part.bytes.now) _ c.if-octets-bytes.false (omega (arith, part_octets c.in-Part.tag c.in-Part.bytes.now))

pub returns-in-Fixed32 : goal.returns-in-Fixed32
returns-in-Fixed32 c =
    let e = ap (λ z. length (encode (wire z))) c.in-Fixed32.is in
    ap (eqb c.args.octets) (omega (arith, fixed32_octets c.in-Fixed32.tag c.in-Fixed32.value, c.key_len-in-Fixed32.ensures.value))
