-- A frame: what a packet is on the wire. Assumes nothing.
use Rattle.std.specs.Prelude.{ℕ, ◌+◌, ◌^◌, Bool, cond, ◌&&◌, List, ◌++◌, length, drop, Some, None, Option, nat_le, nat_lt}
use Rattle.wire.specs.Octets.{big}
use Rattle.packet.specs.declared.frame.WritePacket.{WritePacket}
use Rattle.packet.specs.Header.{header_octets}
use Rattle.packet.specs.Sums.{sums_of}

-- what a frame carries
pub record Packet : Type 0 where
  pub offset : ℕ
  pub seqno : ℕ
  pub last : Bool
  pub sums : List ℕ
  pub bytes : List ℕ

-- the length of what follows the header, with its own four octets, and that of the header
unfoldable pub lengths : ℕ → ℕ → List ℕ
lengths whole head = big 4 whole ++ big 2 head

abbrev pub header_in : Packet → List ℕ
header_in p = header_octets p.offset p.seqno p.last (length p.bytes)

abbrev pub whole_in : Packet → ℕ
whole_in p = 4 + (length p.sums + length p.bytes)

-- lengths, header, sums, data
unfoldable pub octets_of : Packet → List ℕ
octets_of p = lengths (whole_in p) (length (header_in p)) ++ (header_in p ++ (p.sums ++ p.bytes))

-- a packet with the sums of its data, over chunks of c bytes
abbrev pub summed : ℕ → WritePacket → Packet
summed c w = record { offset = w.offset; seqno = w.seqno; last = w.last; sums = sums_of c w.«data».now; bytes = w.«data».now }

abbrev pub frame_of : ℕ → WritePacket → List ℕ
frame_of c w = octets_of (summed c w)

-- the lengths are signed numbers of 32 bits
abbrev pub countable : Packet → Bool
countable p = nat_lt (whole_in p) (2 ^ 31)

-- the frame stands at the front of a buffer, or does not fit
unfoldable pub fits_in : Packet → List ℕ → Bool
fits_in p buffer = countable p && nat_le (length (octets_of p)) (length buffer)

unfoldable pub end_in : Packet → List ℕ → Option ℕ
end_in p buffer = cond (fits_in p buffer) (Some (length (octets_of p))) None

unfoldable pub over : Packet → List ℕ → List ℕ
over p buffer = cond (fits_in p buffer) (octets_of p ++ drop (length (octets_of p)) buffer) buffer
