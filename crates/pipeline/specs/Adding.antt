-- A datanode added to a pipeline: what the namenode was asked, which datanode was chosen, and what came of the copy. Assumes nothing.
use Rattle.std.specs.Prelude.{◌≡◌, ℕ, ◌<◌, ◌≤◌, Bool, true, false, List, length, Some, None, Ok, Err, Option, Result, slice_index_or}
use Rattle.proto.specs.declared.block.ClientOperationHeader.{ClientOperationHeader}
use Rattle.proto.specs.declared.block.ExtendedBlock.{ExtendedBlock}
use Rattle.proto.specs.declared.datanode.Datanode.{Datanode}
use Rattle.proto.specs.declared.fixed.Fixed.{Fixed}
use Rattle.proto.specs.Messages.{octets_in}
use Rattle.replace.specs.declared.choice.NoChoice.{NoChoice}
use Rattle.replace.specs.declared.choice.NoChoice.TheVariants.{NewNode, Source}
use Rattle.replace.specs.Choice.{choice_of}
use Rattle.chain.specs.declared.link.Link as Link
use Rattle.namenode.specs.declared.protocol.NamenodeProtocol as NamenodeProtocol
use Rattle.namenode.specs.Entries.{Offer, ask_for}
use Rattle.pipeline.specs.declared.add_datanode.NoDatanode.{NoDatanode}
use Rattle.pipeline.specs.declared.add_datanode.NoDatanode.TheVariants as no
use Rattle.pipeline.specs.declared.reply.ReplyError.{ReplyError}
use Rattle.pipeline.specs.declared.reply.ReplyError.TheVariants.{Lost, Undecodable, Status}
use Rattle.pipeline.specs.Channels.{ChannelView}
use Rattle.pipeline.specs.Offers.{Rows, in_form}
use Rattle.pipeline.specs.Replies.{Reply}
use Rattle.pipeline.specs.Transfers.{Transfers}

-- the positions of the new datanode and of its source, or why there is none
abbrev pub Added : Type 0
Added = Result (ℕ × ℕ) NoDatanode

abbrev pub unchosen : NoChoice → NoDatanode
unchosen NewNode = no.NoNewNode
unchosen Source = no.NoSource

abbrev pub uncopied : ReplyError → NoDatanode
uncopied Lost = no.Lost
uncopied Undecodable = no.Undecodable
uncopied Status = no.Status

abbrev pub outcome_of : Reply → ℕ × ℕ → Added
outcome_of (Ok _) places = Ok places
outcome_of (Err why) places = Err (uncopied why)

-- the header shows the token that came with the list
pub record Shows (block : ExtendedBlock) (token : List ℕ) (client : Fixed 64)
    (header : ClientOperationHeader) : Type 0 where
  pub of_block : header.block ≡ block
  pub of_token : octets_in header.token.now.message ≡ token
  pub of_client : header.client_name.now ≡ client

module _ {L : Type 0} (acts : Link.Ghosts L) where
  -- the block was copied from the datanode at one place of the list to that at another, by one request
  pub record Copied (header : ClientOperationHeader) (nodes : List Datanode) (places : ℕ × ℕ)
      (s : ChannelView L) (r : Added) (t : ChannelView L) : Type 0 where
    pub new : Datanode
    pub source : Datanode
    pub new_within : places.0 < length nodes
    pub source_within : places.1 < length nodes
    pub new_is : new ≡ slice_index_or nodes places.0 new
    pub source_is : source ≡ slice_index_or nodes places.1 source
    pub reply : Reply
    pub copied : Transfers acts header source new s reply t
    pub is : r ≡ outcome_of reply places

  -- where no datanode was chosen nothing was sent
  abbrev pub Copies : ClientOperationHeader → List Datanode → Result (ℕ × ℕ) NoChoice
      → ChannelView L → Added → ChannelView L → Type 0
  Copies header nodes (Err why) s r t = (r ≡ Err (unchosen why)) × (t ≡ s)
  Copies header nodes (Ok places) s r t = Copied header nodes places s r t

  -- a list in form is read, and a datanode of it chosen that none of the old ones is
  pub record Chooses (block : ExtendedBlock) (client : Fixed 64) (old : List Datanode)
      (offer : Offer)
      (nodes : List Datanode) (s : ChannelView L) (r : Added) (t : ChannelView L) : Type 0 where
    pub rows : Rows offer.rows nodes
    pub header : ClientOperationHeader
    pub shows : Shows block offer.token client header
    pub copies : Copies header nodes (choice_of nodes old) s r t

  -- a list that is not in form is not used
  abbrev pub Listed : ExtendedBlock → Fixed 64 → List Datanode → Offer → Bool
      → List Datanode → ChannelView L → Added → ChannelView L → Type 0
  Listed block client old offer true nodes s r t = Chooses block client old offer nodes s r t
  Listed block client old offer false nodes s r t = (r ≡ Err no.List) × (t ≡ s)

  -- a refusal leaves the table as it was too
  abbrev pub Offers : ExtendedBlock → Fixed 64 → List Datanode → List Datanode → Option Offer
      → List Datanode → ChannelView L → Added → ChannelView L → Type 0
  Offers block client old table None nodes s r t = (r ≡ Err no.Namenode) × (t ≡ s) × (nodes ≡ table)
  Offers block client old table (Some offer) nodes s r t =
      Listed block client old offer (in_form offer) nodes s r t

module _ {L N : Type 0} (acts : Link.Ghosts L) (asks : NamenodeProtocol.Ghosts N) where
  -- the namenode was asked once, from n to m, and what followed is what came; the table has `nodes` in place of
  -- what it had
  pub record Adds (block : ExtendedBlock) (client : Fixed 64)
      (old left gone table nodes : List Datanode)
      (s : ChannelView L) (n : N) (r : Added) (t : ChannelView L) (m : N) : Type 0 where
    pub came : Option Offer
    pub asked : asks.lists n (ask_for block.num_bytes left gone) came m
    pub offers : Offers acts block client old table came nodes s r t

-- the places of a datanode that was added, in a list of eight at most
abbrev pub Within : List Datanode → Added → Type 0
Within nodes (Ok places) =
    (length nodes ≤ 8) × (places.0 < length nodes) × (places.1 < length nodes)
Within nodes (Err why) = Unit {0}
