-- A writer by its contents, and what a step makes of it. Assumes nothing.
use Rattle.std.specs.Prelude.{ℕ, ◌+◌, ◌-◌, ◌*◌, ◌%◌, Bool, List, vec_items, slice_set}
use Rattle.packet.specs.Frame.{Packet}
use Rattle.proto.specs.declared.datanode.Datanode.{Datanode}
use Rattle.proto.specs.declared.token.Token.{Token}
use Rattle.held.specs.Slots.{sizes_of, size_at, slot_of, packet_of, packets, total}
use Rattle.writer.specs.declared.cause.Cause.{Cause}
use Rattle.writer.specs.declared.state.kind.State.{State}
use Rattle.writer.specs.declared.state.kind.State.TheVariants.{Broken}
use Rattle.writer.specs.declared.state.Writer.{Writer}
use Rattle.writer.specs.declared.terms.Terms.{Terms}
use Rattle.writer.specs.Sizes.{capacity}
use Rattle.writer.specs.States.{ended}

-- what was settled at the opening; the state; the block's stamp and token; how many bytes it has; the number of
-- the first held packet and how many are held; how many bytes the packet behind them has so far; when a heartbeat
-- was last put; the sizes in the slots; the datanodes
pub record View : Type 0 where
  pub terms : Terms
  pub state : State
  pub stamp : ℕ
  pub token : Token
  pub len : ℕ
  pub first : ℕ
  pub count : ℕ
  pub filling : ℕ
  pub beaten : ℕ
  pub sizes : List ℕ
  pub nodes : List Datanode

abbrev pub view_of : Writer → View
view_of w = record {
  terms = w.terms;
  state = w.state;
  stamp = w.stamp;
  token = w.token;
  len = w.len;
  first = w.first;
  count = w.count;
  filling = w.filling;
  beaten = w.beaten;
  sizes = sizes_of (vec_items w.held.records);
  nodes = vec_items w.nodes.rows;
}

abbrev pub chunk_of : View → ℕ
chunk_of v = v.terms.size.chunk

-- the number of the packet being filled
abbrev pub next_of : View → ℕ
next_of v = v.first + v.count

abbrev pub with_state : State → View → View
with_state s v = record v { state = s }

-- the pipeline breaks, and the block is finished if it was
abbrev pub broken_by : Cause → View → View
broken_by cause v = with_state (Broken cause (ended v.state)) v

-- m bytes more in the packet being filled
abbrev pub with_bytes : ℕ → View → View
with_bytes m v = record v { len = v.len + m; filling = v.filling + m }

-- the packet being filled is held, and the next begins
abbrev pub with_held : View → View
with_held v =
    record v {
      count = v.count + 1;
      filling = 0;
      sizes = slice_set v.sizes (next_of v % v.terms.slots) v.filling;
    }

-- the first held packet is held no more
abbrev pub without_first : View → View
without_first v = record v { first = v.first + 1; count = v.count - 1 }

abbrev pub beaten_at : ℕ → View → View
beaten_at now v = record v { beaten = now }

-- where the packet being filled has its bytes
abbrev pub slot_start : View → ℕ
slot_start v = (next_of v % v.terms.slots) * capacity v.terms

-- the packet being filled, as it goes out: it began where the block ended before it; the last one is handed over
-- when the block has ended
abbrev pub outgoing : View → List ℕ → Packet
outgoing v store =
    packet_of (chunk_of v) (v.len - v.filling) (next_of v) (ended v.state)
    (slot_of (capacity v.terms) v.terms.slots store (next_of v) v.filling)

-- the bytes of the held packets, counted, and those that are in no packet's confirmation yet
abbrev pub waiting_of : View → ℕ
waiting_of v = total v.terms.slots v.sizes v.count v.first

abbrev pub least_of : View → ℕ
least_of v = v.len - waiting_of v - v.filling

-- the held packets by number, the first at offset o
abbrev pub held_in : View → List ℕ → ℕ → List Packet
held_in v store o =
    packets (chunk_of v) (capacity v.terms) v.terms.slots v.sizes store (ended v.state)
    v.count v.first o

-- one of them, from its slot
abbrev pub held_packet : View → List ℕ → ℕ → ℕ → Bool → Packet
held_packet v store offset n last =
    packet_of (chunk_of v) offset n last
    (slot_of (capacity v.terms) v.terms.slots store n (size_at v.terms.slots v.sizes n))

abbrev pub filling_in : View → List ℕ → List ℕ
filling_in v store = slot_of (capacity v.terms) v.terms.slots store (next_of v) v.filling
