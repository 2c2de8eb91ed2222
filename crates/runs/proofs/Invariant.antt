-- What stays true of a writer, its store and its pipeline through every call, and what a writer's own invariants say of its contents. Assumes nothing.
use Rattle.std.proofs.Common.{◌≡◌, ℕ, suc, ◌+◌, ◌*◌, ◌^◌, ◌<◌, ◌≤◌, true, false, List, [], ◌∷◌, ◌++◌, length, map, replicate, get_or, sym, ◌∙◌, arith}
use Rattle.packet.specs.Frame.{Packet}
use Rattle.held.specs.Slots.{below}
use Rattle.held.proofs.Packets.{whole_long}
use Rattle.chain.specs.Meaning.{Seen}
use Rattle.namenode.specs.Entries.{Entry}
use Rattle.proto.specs.declared.datanode.Datanode.{Datanode}
use Rattle.proto.specs.Messages.{octets_in, id_of}
use Rattle.writer.specs.declared.state.Writer.{Writer}
use Rattle.writer.specs.declared.state.kind.State.{State}
use Rattle.writer.specs.declared.state.kind.State.TheVariants.{Streaming, Finishing, Broken, Complete, Closed}
use Rattle.writer.specs.Sizes.{capacity, room_at}
use Rattle.writer.specs.States.{ended, last_ones}
use Rattle.writer.specs.Views.{View, view_of, next_of, waiting_of, least_of, held_in}
use Rattle.writer.proofs.Rooms.{room_within, sizes_table}
use Rattle.runs.specs.History.{History}
use Rattle.runs.specs.Law.{Whole, Told, seqnos, lasts}

-- the contents of a writer are in order, over a store of that length
pub record Fit (v : View) (long : ℕ) : Type 0 where
  pub slots : 3 ≤ v.terms.slots
  pub store : v.terms.slots * capacity v.terms ≤ long
  pub room : v.count < v.terms.slots
  pub fits : v.filling ≤ room_at v.terms (next_of v)
  pub small : (i : ℕ) → get_or v.sizes i 0 ≤ capacity v.terms
  pub table : v.terms.slots ≤ length v.sizes
  pub numbers : v.first + v.count + v.filling + v.terms.initial_len ≤ v.len + last_ones v.state
  pub ends : waiting_of v + v.filling ≤ v.len
  pub limit : v.len < 2 ^ 63
  pub block : v.terms.block_size < 2 ^ 63
  pub done : ended v.state ≡ true → v.filling ≡ 0

pub fit_of : (w : Writer) (long : ℕ) → long ≡ w.terms.store_len → Fit (view_of w) long
fit_of w long e = record {
  slots = w.shape.0;
  store = omega (arith, w.shape, e);
  room = w.room;
  fits = w.fits;
  small = w.small;
  table = sizes_table w;
  numbers = w.numbers;
  ends = omega (arith, w.ends, w.sums);
  limit = omega (arith, w.limit);
  block = omega (arith, w.limit);
  done = w.done;
}

-- while the pipeline is whole it has the held packets pending, and no others
abbrev pub Flows : State → List Packet → List Packet → Type 0
Flows Streaming pending packets = pending ≡ packets
Flows Finishing pending packets = pending ≡ packets
Flows (Broken cause finished) pending packets = Unit {0}
Flows Complete pending packets = Unit {0}
Flows Closed pending packets = Unit {0}

-- those below the first held one were confirmed, and none of them was the last
abbrev pub Sofar : ℕ → List Packet → Type 0
Sofar first ps = (seqnos ps ≡ below first) × (lasts ps ≡ replicate first false)

-- all were confirmed, and the one before `first` was the last
pub record All (first count : ℕ) (ps : List Packet) : Type 0 where
  pub last : ℕ
  pub ends : first ≡ suc last
  pub none : count ≡ 0
  pub numbers : seqnos ps ≡ below first
  pub flags : lasts ps ≡ replicate last false ++ true ∷ []

abbrev pub Confirmed : State → ℕ → ℕ → List Packet → Type 0
Confirmed Streaming first count ps = Sofar first ps
Confirmed Finishing first count ps = Sofar first ps
Confirmed (Broken cause finished) first count ps = Sofar first ps
Confirmed Complete first count ps = All first count ps
Confirmed Closed first count ps = Unit {0}

-- of bytes and packets
pub record Holds (h : History) (v : View) (store : List ℕ) (x : Seen) : Type 0 where
  pub store_len : length store ≡ v.terms.store_len
  pub whole : Whole h v store x
  pub len : v.len ≡ length (h.initial ++ h.accepted)
  pub flows : Flows v.state x.pending (held_in v store (length x.kept))
  pub told : Told h
  pub confirmed : Confirmed v.state v.first v.count h.confirmed

-- of the namenode's entry
abbrev pub IsOpen : State → Type 0
IsOpen Streaming = Unit {0}
IsOpen Finishing = Unit {0}
IsOpen (Broken cause finished) = Unit {0}
IsOpen Complete = Unit {0}
IsOpen Closed = ⊥

pub record Named (stamp : ℕ) (chain : List Datanode) (e : Entry) : Type 0 where
  pub stamp_is : e.stamp ≡ stamp
  pub ids : e.ids ≡ map id_of chain
  pub storages : e.storages ≡ map (λ (d : Datanode). octets_in d.storage_id) chain

abbrev pub Entered : View → List Datanode → Entry → Type 0
Entered v chain e = IsOpen v.state → Named v.stamp chain e

-- how many bytes are kept
pub kept_long : (h : History) (v : View) (store : List ℕ) (x : Seen) → Fit v (length store) → Holds h v store x → length x.kept + (waiting_of v + v.filling) ≡ v.len
kept_long h v store x f s =
    whole_long v.terms.size.chunk (capacity v.terms) v.terms.slots v.sizes store (ended v.state) v.count v.first v.filling x.kept (h.initial ++ h.accepted)
    (omega (arith, f.slots)) f.small (omega (arith, f.fits, room_within v.terms (next_of v))) f.store s.whole ∙ sym s.len

pub kept_least : (h : History) (v : View) (store : List ℕ) (x : Seen) → Fit v (length store) → Holds h v store x → length x.kept ≡ least_of v
kept_least h v store x f s = omega (arith, kept_long h v store x f s)
