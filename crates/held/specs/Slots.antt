-- Where packets lie in the caller's store: packet n has the slot n % s, of k bytes. Assumes nothing.
use Rattle.std.specs.Prelude.{ℕ, zero, suc, ◌+◌, ◌*◌, ◌%◌, Bool, false, List, [], ◌∷◌, ◌++◌, map, take, drop, slice_index}
use Rattle.packet.specs.Frame.{Packet}
use Rattle.packet.specs.Sums.{sums_of}
use Rattle.held.specs.declared.table.HeldPacket.{HeldPacket}

abbrev pub sizes_of : List HeldPacket → List ℕ
sizes_of rs = map (λ r. r.len) rs

-- how many bytes of its slot packet n has
abbrev pub size_at : ℕ → List ℕ → ℕ → ℕ
size_at s sizes n = slice_index sizes (n % s)

-- the bytes of `count` packets from number n on, counted
abbrev pub total : ℕ → List ℕ → ℕ → ℕ → ℕ
total s sizes zero n = 0
total s sizes (suc c) n = size_at s sizes n + total s sizes c (suc n)

-- the first m bytes of the slot of packet n
abbrev pub slot_of : ℕ → ℕ → List ℕ → ℕ → ℕ → List ℕ
slot_of k s store n m = take m (drop ((n % s) * k) store)

-- a packet with the sums of its bytes, over chunks of c bytes
abbrev pub packet_of : ℕ → ℕ → ℕ → Bool → List ℕ → Packet
packet_of c offset seqno last bytes = record { offset = offset; seqno = seqno; last = last; sums = sums_of c bytes; bytes = bytes }

-- of the packets of a finished block, the one with none behind it is the last
abbrev pub last_at : Bool → ℕ → Bool
last_at finished zero = finished
last_at finished (suc behind) = false

-- `count` packets from number n on, the first at offset o
abbrev pub packets : ℕ → ℕ → ℕ → List ℕ → List ℕ → Bool → ℕ → ℕ → ℕ → List Packet
packets c k s sizes store finished zero n o = []
packets c k s sizes store finished (suc m) n o =
    packet_of c o n (last_at finished m) (slot_of k s store n (size_at s sizes n)) ∷ packets c k s sizes store finished m (suc n) (o + size_at s sizes n)

-- the data of packets, joined
abbrev pub bytes_of : List Packet → List ℕ
bytes_of [] = []
bytes_of (q ∷ qs) = q.bytes ++ bytes_of qs

-- 0, 1, .. below n
abbrev pub below : ℕ → List ℕ
below zero = []
below (suc n) = below n ++ n ∷ []
