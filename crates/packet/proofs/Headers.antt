-- The octets of a header. Assumes nothing.
use Rattle.std.proofs.Common.{◌≡◌, ℕ, Bool, true, false, cond, [], ◌∷◌, ◌++◌, length, refl, ap}
use Rattle.std.specs.Int.{from_bool}
use Rattle.std.proofs.lemmas.Bool.{true≢false, false≢true}
use Rattle.wire.specs.Fields.{varint_bytes, encode, encode_all}
use Rattle.wire.specs.Octets.{little}
use Rattle.packet.specs.Header.{header_octets, header_length, plain_octets}

pub header_long : (o s : ℕ) (l : Bool) (n : ℕ) → length (header_octets o s l n) ≡ header_length l
unfolding header_octets varint_bytes encode encode_all
header_long o s true n = refl
header_long o s false n = refl

pub plain_is : (o s : ℕ) (l : Bool) (n : ℕ) → plain_octets o s l n ≡ (9 ∷ little 8 o) ++ ((17 ∷ little 8 s) ++ (24 ∷ cond l 1 0 ∷ (37 ∷ little 4 n)))
unfolding plain_octets varint_bytes encode encode_all
plain_is o s true n = refl
plain_is o s false n = refl

-- the octet that a `bool` is
pub one_bit : (b : Bool) → from_bool b ≡ cond b 1 0
one_bit true = refl
one_bit false = refl

pub plain_long : (o s : ℕ) (l : Bool) (n : ℕ) → length (plain_octets o s l n) ≡ 25
plain_long o s l n = ap length (plain_is o s l n)

-- the header of a packet that is not the last, and of the last
pub header_plain : (o s : ℕ) (l : Bool) (n : ℕ) → l ≡ false → plain_octets o s l n ≡ header_octets o s l n
unfolding header_octets plain_octets varint_bytes encode encode_all
header_plain o s true n e = absurd (true≢false e)
header_plain o s false n e = refl

pub header_last : (o s : ℕ) (l : Bool) (n : ℕ) → l ≡ true → plain_octets o s l n ++ (40 ∷ 1 ∷ []) ≡ header_octets o s l n
unfolding header_octets plain_octets varint_bytes encode encode_all
header_last o s true n e = refl
header_last o s false n e = absurd (false≢true e)
