-- What octets are the frame of a packet, and which packet that is. Assumes nothing.
use Rattle.std.specs.Prelude.{◌≡◌, ℕ, ◌^◌, ◌<◌, List, ◌++◌, length, take, drop, Some, None, Option, ◌==◌, ◌≢◌, slice_index}
use Rattle.wire.specs.Octets.{from_little}
use Rattle.packet.specs.declared.frame.WritePacket.{WritePacket}
use Rattle.packet.specs.declared.header.PacketHeader.{PacketHeader}
use Rattle.packet.specs.declared.read.Frame.{Frame}
use Rattle.packet.specs.Frame.{Packet, lengths, whole_in, octets_of, summed, frame_of}
use Rattle.packet.specs.Header.{header_of}

-- a packet whose numbers have room in a frame
pub record Carried (p : Packet) : Type 0 where
  pub offset : p.offset < 2 ^ 64
  pub seqno : p.seqno < 2 ^ 64
  pub whole : whole_in p < 2 ^ 31

-- the packet that these octets are the frame of, octet for octet; none says that there is no such packet
abbrev pub Reads : List ℕ → Option Packet → Type 0
Reads octets (Some p) = Carried p × (octets_of p ≡ octets)
Reads octets None = (p : Packet) → Carried p → octets_of p ≢ octets

-- a frame of the program as a packet
abbrev pub packet_in : Option Frame → Option Packet
packet_in (Some f) = Some (record { offset = f.packet.offset; seqno = f.packet.seqno; last = f.packet.last; sums = f.sums.now; bytes = f.packet.«data».now })
packet_in None = None

-- no two packets have one frame
abbrev pub Unique : Type 0
Unique = (p q : Packet) → Carried p → Carried q → octets_of p ≡ octets_of q → p ≡ q

-- what is read from a frame as it is written is the packet, with the sums of its data
abbrev pub RoundTrip : Type 0
RoundTrip = (c : ℕ) (w : WritePacket) → Carried (summed c w) → (read : Option Packet) → Reads (frame_of c w) read → read ≡ Some (summed c w)

-- what stands at the places of a header's numbers
abbrev pub header_at : List ℕ → PacketHeader
header_at octets = record {
  offset = from_little (take 8 (drop 7 octets));
  seqno = from_little (take 8 (drop 16 octets));
  last = (slice_index octets 25 == 1);
  data_len = from_little (take 4 (drop 27 octets));
}

-- how a frame with that header begins
unfoldable pub front_of : ℕ → PacketHeader → List ℕ
front_of whole h = lengths whole (length (header_of h)) ++ header_of h
