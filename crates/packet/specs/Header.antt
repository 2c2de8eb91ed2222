-- PacketHeaderProto, of datatransfer.proto: the fields of a packet's header. Assumes nothing.
use Rattle.std.specs.Prelude.{ℕ, Bool, cond, List, [], ◌∷◌, ◌++◌}
use Rattle.wire.specs.Fields.{WireField, varint, fixed64, fixed32, encode_all}
use Rattle.packet.specs.declared.header.PacketHeader.{PacketHeader}

-- offset in the block, packet number, whether it is the last packet, and the length of the data
abbrev pub plain_fields : ℕ → ℕ → Bool → ℕ → List WireField
plain_fields offset seqno last size = fixed64 1 offset ∷ fixed64 2 seqno ∷ varint 3 (cond last 1 0) ∷ fixed32 4 size ∷ []

-- the last packet asks for a sync
abbrev pub header_fields : ℕ → ℕ → Bool → ℕ → List WireField
header_fields offset seqno last size = plain_fields offset seqno last size ++ cond last (varint 5 1 ∷ []) []

unfoldable pub header_octets : ℕ → ℕ → Bool → ℕ → List ℕ
header_octets offset seqno last size = encode_all (header_fields offset seqno last size)

abbrev pub header_of : PacketHeader → List ℕ
header_of h = header_octets h.offset h.seqno h.last h.data_len

abbrev pub header_length : Bool → ℕ
header_length last = cond last 27 25

unfoldable pub plain_octets : ℕ → ℕ → Bool → ℕ → List ℕ
plain_octets offset seqno last size = encode_all (plain_fields offset seqno last size)
