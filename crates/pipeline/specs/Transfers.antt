-- A block copied to a new datanode: the request that is sent, and what came of it. Assumes nothing.
use Rattle.std.specs.Prelude.{◌≡◌, ℕ, ◌≤◌, List, ◌++◌, length, drop}
use Rattle.wire.specs.Fields.{encode_all}
use Rattle.proto.specs.declared.block.ClientOperationHeader.{ClientOperationHeader}
use Rattle.proto.specs.declared.datanode.Datanode.{Datanode}
use Rattle.request.specs.declared.transfer_block.TransferBlock.{TransferBlock}
use Rattle.request.specs.Requests.{transfer_fields, framed}
use Rattle.chain.specs.declared.link.Link as Link
use Rattle.pipeline.specs.Channels.{ChannelView}
use Rattle.pipeline.specs.Replies.{Reply, Asked}

-- the request's octets, with code 86
abbrev pub copy_octets : TransferBlock → List ℕ
copy_octets message = framed 86 (encode_all (transfer_fields message))

module _ {L : Type 0} (acts : Link.Ghosts L) where
  -- the request stands at the front of its buffer, was sent once, to the source, and this came of it
  pub record Transfers (heading : ClientOperationHeader) (source new : Datanode)
      (s : ChannelView L) (r : Reply) (t : ChannelView L) : Type 0 where
    pub message : TransferBlock
    pub header : message.header ≡ heading
    pub target : message.target.now ≡ new
    pub long : length (copy_octets message) ≤ length s.request
    pub sent : t.request ≡ copy_octets message ++ drop (length (copy_octets message)) s.request
    pub reply : Asked
        (λ came. acts.transfers s.link source (copy_octets message) came t.link)
        s.answer t.answer r
