-- The fields of a protocol buffers message, and the octets that they are written as. Assumes nothing.
use Rattle.std.specs.Prelude.{ℕ, zero, suc, ◌+◌, ◌*◌, ◌/◌, ◌%◌, cond, List, [], ◌∷◌, ◌++◌, length, nat_lt}
use Rattle.wire.specs.Octets.{little}

-- a field: its tag, and a number in one of three forms or a part of the message
pub data WireField : Type 0 where
  varint : ℕ → ℕ → WireField
  fixed64 : ℕ → ℕ → WireField
  part : ℕ → List ℕ → WireField
  fixed32 : ℕ → ℕ → WireField

abbrev pub tag_of : WireField → ℕ
tag_of (varint tag n) = tag
tag_of (fixed64 tag n) = tag
tag_of (part tag bs) = tag
tag_of (fixed32 tag n) = tag

-- seven bits to an octet, the lowest first; the highest bit says that another octet follows. Ten octets hold 64 bits
abbrev pub groups : ℕ → ℕ → List ℕ
groups zero n = []
groups (suc k) n = cond (nat_lt n 128) (n ∷ []) ((n % 128 + 128) ∷ groups k (n / 128))

unfoldable pub varint_bytes : ℕ → List ℕ
varint_bytes n = groups 10 n

-- a tag and a wire type
abbrev pub key : ℕ → ℕ → List ℕ
key tag kind = varint_bytes (8 * tag + kind)

-- what stands before a part: its key, and how long it is
unfoldable pub prefix : ℕ → ℕ → List ℕ
prefix tag size = key tag 2 ++ varint_bytes size

unfoldable pub encode : WireField → List ℕ
encode (varint tag n) = key tag 0 ++ varint_bytes n
encode (fixed64 tag n) = key tag 1 ++ little 8 n
encode (part tag bs) = prefix tag (length bs) ++ bs
encode (fixed32 tag n) = key tag 5 ++ little 4 n

-- a message is its fields, one after another
unfoldable pub encode_all : List WireField → List ℕ
encode_all [] = []
encode_all (f ∷ fs) = encode f ++ encode_all fs
