-- A pipeline set up: the request that is sent, and what came of it. Assumes nothing.
use Rattle.std.specs.Prelude.{◌≡◌, ℕ, ◌≤◌, List, ◌∷◌, ◌++◌, length, drop}
use Rattle.wire.specs.Fields.{encode_all}
use Rattle.proto.specs.declared.block.ExtendedBlock.{ExtendedBlock}
use Rattle.proto.specs.declared.datanode.Datanode.{Datanode}
use Rattle.proto.specs.declared.fixed.Fixed.{Fixed}
use Rattle.proto.specs.declared.token.Token.{Token}
use Rattle.request.specs.declared.stage.Stage.{Stage}
use Rattle.request.specs.declared.write_block.WriteBlock.{WriteBlock}
use Rattle.request.specs.Requests.{write_fields, framed}
use Rattle.request.specs.SetupLaw.{Widths}
use Rattle.chain.specs.declared.link.Link as Link
use Rattle.pipeline.specs.declared.set_up.SetupRequest.{SetupRequest}
use Rattle.pipeline.specs.Channels.{ChannelView}
use Rattle.pipeline.specs.Replies.{Reply, Asked}

-- the request for a pipeline of these datanodes, in their order, as it is wanted
pub record Requests (wanted : SetupRequest) (pipeline : List Datanode)
    (message : WriteBlock) : Type 0 where
  pub header : message.header ≡ wanted.header
  pub stage : message.stage ≡ wanted.stage
  pub min : message.min_bytes ≡ wanted.min_bytes
  pub max : message.max_bytes ≡ wanted.max_bytes
  pub latest : message.latest_stamp ≡ wanted.latest_stamp
  pub chunk : message.chunk_size ≡ wanted.chunk_size
  pub nodes : message.first.now ∷ message.targets.now ≡ pipeline
  pub widths : Widths message

-- its octets, with code 80
abbrev pub octets_of : WriteBlock → List ℕ
octets_of message = framed 80 (encode_all (write_fields message))

-- what is wanted of a set up
pub record Wants (block : ExtendedBlock) (token : Token) (client : Fixed 64) (stage : Stage)
    (least most latest chunk : ℕ) (wanted : SetupRequest) : Type 0 where
  pub of_block : wanted.header.block ≡ block
  pub of_token : wanted.header.token.now ≡ token
  pub of_client : wanted.header.client_name.now ≡ client
  pub of_stage : wanted.stage ≡ stage
  pub of_least : wanted.min_bytes ≡ least
  pub of_most : wanted.max_bytes ≡ most
  pub of_latest : wanted.latest_stamp ≡ latest
  pub of_chunk : wanted.chunk_size ≡ chunk

module _ {L : Type 0} (acts : Link.Ghosts L) where
  -- that request stands at the front of its buffer, was sent once, to its first datanode, and this came of it
  pub record SetsUp (wanted : SetupRequest) (pipeline : List Datanode)
      (s : ChannelView L) (r : Reply) (t : ChannelView L) : Type 0 where
    pub message : WriteBlock
    pub asks : Requests wanted pipeline message
    pub long : length (octets_of message) ≤ length s.request
    pub sent : t.request ≡ octets_of message ++ drop (length (octets_of message)) s.request
    pub reply : Asked
        (λ came. acts.sets s.link message.first.now (octets_of message) wanted.min_bytes came
        t.link)
        s.answer t.answer r
