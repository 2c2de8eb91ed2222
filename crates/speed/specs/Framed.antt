-- A packet by its parts. Assumes nothing.
use Rattle.std.specs.Prelude.{ℕ, Bool, List}
use Rattle.packet.specs.Frame.{Packet}
use Rattle.packet.specs.Sums.{sums_of}

-- the packet of these bytes, with their sums over chunks of c bytes
abbrev pub packet_of : ℕ → ℕ → ℕ → Bool → List ℕ → Packet
packet_of c offset seqno last bytes = record { offset = offset; seqno = seqno; last = last; sums = sums_of c bytes; bytes = bytes }
