-- A block opened: what is refused, what the pipeline is set up with, and the writer that comes of it. Assumes nothing.
use Rattle.std.specs.Borrow.{Bor}
use Rattle.std.specs.Prelude.{◌≡◌, ℕ, ◌*◌, ◌/◌, ◌^◌, min, Bool, if◌then◌else◌, ◌&&◌, ◌||◌, List, [], ◌∷◌, length, Some, None, Ok, Err, Option, Result, ◌==◌, nat_le, nat_lt}
use Rattle.packet.specs.declared.size.settings.SizeError.{SizeError}
use Rattle.packet.specs.declared.size.settings.SizeError.TheVariants as error
use Rattle.packet.specs.Accepted.{settings_of}
use Rattle.packet.specs.Sizes.{capacity_of, frame_capacity_of}
use Rattle.proto.specs.declared.block.ExtendedBlock.{ExtendedBlock}
use Rattle.proto.specs.declared.datanode.Datanode.{Datanode}
use Rattle.proto.specs.declared.token.Token.{Token}
use Rattle.proto.specs.Form.{is_text}
use Rattle.proto.specs.Messages.{octets_in}
use Rattle.proto.specs.Rules.{is_token}
use Rattle.request.specs.declared.stage.Stage.{Stage}
use Rattle.request.specs.declared.stage.Stage.TheVariants.{SetupAppend, SetupCreate}
use Rattle.namenode.specs.Entries.{Row}
use Rattle.pipeline.specs.declared.set_up.SetupRequest.{SetupRequest}
use Rattle.chain.specs.declared.link.Link as Link
use Rattle.pipeline.specs.Channels.{ChannelView}
use Rattle.pipeline.specs.Offers.{Rows, rows_in_form}
use Rattle.pipeline.specs.Replies.{Reply}
use Rattle.pipeline.specs.SetUps.{Wants, SetsUp}
use Rattle.writer.specs.declared.admit.Lengths.{Lengths}
use Rattle.writer.specs.declared.opening.Opening.{Opening}
use Rattle.writer.specs.declared.refusal.Refusal.{Refusal}
use Rattle.writer.specs.declared.refusal.Refusal.TheVariants as refusal
use Rattle.writer.specs.declared.state.kind.State.TheVariants.{Streaming, Closed}
use Rattle.writer.specs.declared.terms.Terms.{Terms}
use Rattle.writer.specs.Refusals.{or_else}
use Rattle.writer.specs.Views.{View}

-- the three lists, side by side
abbrev pub rows_of : List (Bor (List ℕ)) → List (Bor (List ℕ)) → List ℕ → List Row
rows_of [] names types = []
rows_of (i ∷ infos) [] types = []
rows_of (i ∷ infos) (s ∷ names) [] = []
rows_of (i ∷ infos) (s ∷ names) (t ∷ types) =
    record { info = i.now; storage = s.now; kind = t } ∷ rows_of infos names types

abbrev pub rows_in : Opening → List Row
rows_in o = rows_of o.infos.now o.storage_ids.now o.storage_types.now

abbrev pub by_length : Opening → Option Refusal
by_length o =
    if nat_lt o.block_size o.initial_len || nat_le (2 ^ 63) o.block_size
    then Some refusal.Length else None

-- one to eight datanodes, and as many names and types
abbrev pub by_count : Opening → Option Refusal
by_count o =
    let count = length o.infos.now in
    if nat_le 1 count && (nat_le count 8
    && (length o.storage_ids.now == count && length o.storage_types.now == count))
    then None else Some refusal.Nodes

abbrev pub by_texts : Opening → Bool
by_texts o = is_text 255 o.path.now && (is_text 64 o.pool_id.now && is_text 64 o.client_name.now)

abbrev pub by_form : Opening → Option Refusal
by_form o =
    if rows_in_form (rows_in o) && (is_token o.token.now && by_texts o)
    then None else Some refusal.Form

abbrev pub capacity_in : Opening → ℕ
capacity_in o = capacity_of 4 o.chunk_size o.packet_size

abbrev pub by_buffers : Opening → Lengths → Option Refusal
by_buffers o l =
    if nat_le (3 * capacity_in o) l.store then
    (if nat_le (frame_capacity_of 4 o.chunk_size o.packet_size) l.frame
    && (nat_le 4096 l.request && nat_le 4096 l.answer)
    then None else Some refusal.Buffer)
    else Some refusal.Store

abbrev pub size_refusal : SizeError → Refusal
size_refusal error.Chunk = refusal.ChunkSize
size_refusal error.Packet = refusal.PacketSize

abbrev pub after_sizes : Result (ℕ × ℕ) SizeError → Option Refusal → Option Refusal
after_sizes (Err e) s = Some (size_refusal e)
after_sizes (Ok sizes) s = s

-- where the sizes are accepted, in this order
abbrev pub later_refusal : Opening → Lengths → Option Refusal
later_refusal o l =
    or_else (by_length o) (or_else (by_count o) (or_else (by_form o) (by_buffers o l)))

abbrev pub open_refusal : Opening → Lengths → Option Refusal
open_refusal o l = after_sizes (settings_of 4 o.chunk_size o.packet_size) (later_refusal o l)

-- a block that has bytes is appended
abbrev pub stage_for : ℕ → Stage
stage_for n = if n == 0 then SetupCreate else SetupAppend

-- what is settled
pub record TermsFor (o : Opening) (l : Lengths) (t : Terms) : Type 0 where
  pub chunk : t.size.chunk ≡ o.chunk_size
  pub packet : t.size.packet ≡ o.packet_size
  pub slots : t.slots ≡ min 101 (l.store / capacity_in o)
  pub store : t.store_len ≡ l.store
  pub block : t.block_size ≡ o.block_size
  pub initial : t.initial_len ≡ o.initial_len
  pub replication : t.replication ≡ o.replication
  pub replace : t.replace ≡ o.replace
  pub pool : octets_in t.pool_id ≡ o.pool_id.now
  pub id : t.block_id ≡ o.block_id
  pub client : octets_in t.client_name ≡ o.client_name.now

-- a writer that has taken nothing yet
pub record Fresh (o : Opening) (l : Lengths) (shown : Token) (chain : List Datanode)
    (w : View) : Type 0 where
  pub terms : TermsFor o l w.terms
  pub state : w.state ≡ Streaming
  pub stamp : w.stamp ≡ o.stamp
  pub token : w.token ≡ shown
  pub len : w.len ≡ o.initial_len
  pub first : w.first ≡ 0
  pub count : w.count ≡ 0
  pub filling : w.filling ≡ 0
  pub beaten : w.beaten ≡ o.time
  pub nodes : w.nodes ≡ chain

-- a closed writer, of a block without bytes
pub record Shut (w : View) : Type 0 where
  pub state : w.state ≡ Closed
  pub len : w.len ≡ 0
  pub count : w.count ≡ 0
  pub filling : w.filling ≡ 0

abbrev pub block_for : Opening → Terms → ExtendedBlock
block_for o t =
    record {
      pool_id = t.pool_id;
      block_id = o.block_id;
      generation_stamp = o.stamp;
      num_bytes = o.initial_len;
    }

abbrev pub Started : Reply → Opening → Lengths → Token → List Datanode → Option Refusal → View
    → Type 0
Started (Ok _) o l token nodes r w = (r ≡ None) × Fresh o l token nodes w
Started (Err why) o l token nodes r w = (r ≡ Some (refusal.SetUp why)) × Shut w

module _ {L : Type 0} (acts : Link.Ghosts L) where
  -- the pipeline is set up, once, with minimum and maximum the initial length
  pub record SetsUpFor (o : Opening) (terms : Terms) (token : Token) (nodes : List Datanode)
      (s : ChannelView L) (reply : Reply) (t : ChannelView L) : Type 0 where
    pub wanted : SetupRequest
    pub wants : Wants (block_for o terms) token terms.client_name (stage_for o.initial_len)
        o.initial_len o.initial_len o.stamp o.chunk_size wanted
    pub sets_up : SetsUp acts wanted nodes s reply t

  -- the datanodes and the token as they were given, the pipeline set up with them, and the writer that comes of
  -- the reply
  pub record Starts (o : Opening) (l : Lengths) (s : ChannelView L) (r : Option Refusal) (w : View)
      (t : ChannelView L) : Type 0 where
    pub nodes : List Datanode
    pub rows : Rows (rows_in o) nodes
    pub token : Token
    pub given : octets_in token.message ≡ o.token.now
    pub terms : Terms
    pub settled : TermsFor o l terms
    pub reply : Reply
    pub sets_up : SetsUpFor o terms token nodes s reply t
    pub follows : Started reply o l token nodes r w

  -- a refusal before the set up leaves link and buffers
  abbrev pub Opens : Option Refusal → Opening → Lengths → ChannelView L → Option Refusal → View
      → ChannelView L → Type 0
  Opens (Some refusal) o l s r w t = (r ≡ Some refusal) × Shut w × (t ≡ s)
  Opens None o l s r w t = Starts o l s r w t
