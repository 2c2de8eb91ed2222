-- What a spool holds, and what each call makes of it. Assumes nothing.
use Rattle.std.specs.Prelude.{ℕ, ◌+◌, ◌-◌, ◌^◌, Bool, true, false, if◌then◌else◌, ◌&&◌, List, [], ◌∷◌, ◌++◌, length, take, drop, Some, None, vec_items, Option, ◌==◌, nat_le, nat_lt}
use Rattle.std.specs.Str.{bytes_eq}
use Rattle.std.specs.VecDeque.{deque_items}
use Rattle.packet.specs.declared.read.Frame.{Frame}
use Rattle.packet.specs.Frame.{Packet}
use Rattle.packet.specs.Sums.{sums_of}
use Rattle.request.specs.declared.setup.Setup.{Setup}
use Rattle.chain.specs.Meaning.{Seen}
use Rattle.spool.specs.declared.pending.Pending.{Pending}
use Rattle.spool.specs.declared.state.Spool.{Spool}

-- a spool by its contents
pub record SpoolView : Type 0 where
  pub bytes : List ℕ
  pub pending : List Pending
  pub kept : ℕ
  pub limit : ℕ
  pub most : ℕ
  pub nodes : ℕ
  pub chunk : ℕ

abbrev pub spool_view : Spool → SpoolView
spool_view s = record {
  bytes = vec_items s.bytes;
  pending = deque_items s.pending;
  kept = s.kept;
  limit = s.limit;
  most = s.most;
  nodes = s.nodes;
  chunk = s.chunk;
}

-- pending packets over their bytes, the first of which begins at that offset; their sums are right
abbrev pub packets_from : ℕ → ℕ → List Pending → List ℕ → List Packet
packets_from c at [] bs = []
packets_from c at (p ∷ ps) bs =
    record { offset = at; seqno = p.seqno; last = p.last; sums = sums_of c (take p.len bs); bytes = take p.len bs }
    ∷ packets_from c (at + p.len) ps (drop p.len bs)

abbrev pub seen_in : SpoolView → Seen
seen_in v = record {
  kept = take v.kept v.bytes;
  pending = packets_from v.chunk v.kept v.pending (drop v.kept v.bytes);
  nodes = v.nodes;
  chunk = v.chunk;
}

-- a set up is for as many nodes as may be, over chunks whose size has 32 bits, and with no more bytes than are kept
abbrev pub sets_up : SpoolView → Option Setup → ℕ → Bool
sets_up v None least = false
sets_up v (Some q) least =
    (nat_lt 0 q.pipeline_size && nat_le q.pipeline_size v.most) && (nat_lt q.chunk_size (2 ^ 32) && nat_le least v.kept)

abbrev pub rebuilt_to : SpoolView → ℕ → ℕ → ℕ → SpoolView
rebuilt_to v least nodes chunk = record v { bytes = take least v.bytes; pending = []; kept = least; nodes = nodes; chunk = chunk }

-- a packet is taken where it begins at the end of what is there, its sums are right, and it finds a place and room
abbrev pub takes : SpoolView → Packet → Bool
takes v p =
    (p.offset == length v.bytes)
    && (bytes_eq p.sums (sums_of v.chunk p.bytes)
    && (nat_lt (length v.pending) 128 && nat_le (length v.bytes + length p.bytes) v.limit))

abbrev pub with_pending : SpoolView → Packet → SpoolView
with_pending v p = record v {
  bytes = v.bytes ++ p.bytes;
  pending = v.pending ++ record { seqno = p.seqno; last = p.last; len = length p.bytes } ∷ [];
}

-- a heartbeat is taken and leaves nothing; no packet at all is not taken
abbrev pub put_taken : SpoolView → Option Packet → Bool
put_taken v None = false
put_taken v (Some p) = if p.seqno == 2 ^ 64 - 1 then true else takes v p

abbrev pub put_after : SpoolView → Option Packet → SpoolView
put_after v None = v
put_after v (Some p) = if p.seqno == 2 ^ 64 - 1 then v else (if takes v p then with_pending v p else v)

-- the first pending packet is confirmed
abbrev pub confirms_from : SpoolView → List Pending → SpoolView
confirms_from v [] = v
confirms_from v (p ∷ ps) = record v { pending = ps; kept = v.kept + p.len }

abbrev pub confirms_first : SpoolView → SpoolView
confirms_first v = confirms_from v v.pending

-- a frame of the program as the packet that it carries
abbrev pub packet_of : Frame → Packet
packet_of f = record { offset = f.packet.offset; seqno = f.packet.seqno; last = f.packet.last; sums = f.sums.now; bytes = f.packet.«data».now }

-- a new spool keeps what its buffer has, and has not been set up
abbrev pub fresh : List ℕ → ℕ → ℕ → SpoolView
fresh bytes room most = record { bytes = bytes; pending = []; kept = length bytes; limit = room; most = most; nodes = 0; chunk = 0 }

-- the number of the first packet that waits
abbrev pub first_number : List Pending → Option ℕ
first_number [] = None
first_number (p ∷ ps) = Some p.seqno
