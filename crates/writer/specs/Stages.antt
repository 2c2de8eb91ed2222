-- The stages of a recovery (counted, stamped, set up, replayed), and what came of the way from each to the next. Assumes nothing.
use Rattle.std.specs.Prelude.{◌≡◌, ℕ, Bool, true, false, if◌then◌else◌, List, Some, None, Ok, Err, Option, Result}
use Rattle.proto.specs.declared.datanode.Datanode.{Datanode}
use Rattle.proto.specs.declared.token.Token.{Token}
use Rattle.proto.specs.Messages.{octets_in}
use Rattle.proto.specs.Rules.{is_token}
use Rattle.request.specs.declared.stage.Stage.TheVariants.{SetupStreamingRecovery}
use Rattle.chain.specs.declared.link.Link as Link
use Rattle.namenode.specs.declared.protocol.NamenodeProtocol as NamenodeProtocol
use Rattle.namenode.specs.Entries.{entry_for}
use Rattle.pipeline.specs.declared.set_up.SetupRequest.{SetupRequest}
use Rattle.pipeline.specs.Channels.{ChannelView}
use Rattle.pipeline.specs.Replies.{Reply}
use Rattle.pipeline.specs.SetUps.{Wants, SetsUp}
use Rattle.writer.specs.declared.cause.Cause.TheVariants.{Put}
use Rattle.writer.specs.declared.recover.Recovered.{Recovered}
use Rattle.writer.specs.declared.recovery.Replayed.{Replayed}
use Rattle.writer.specs.declared.recovery.SetUp.{SetUp}
use Rattle.writer.specs.declared.recovery.Stamped.{Stamped}
use Rattle.writer.specs.declared.refusal.Refusal.{Refusal}
use Rattle.writer.specs.declared.refusal.Refusal.TheVariants as refusal
use Rattle.writer.specs.declared.state.kind.State.{State}
use Rattle.writer.specs.declared.state.kind.State.TheVariants.{Streaming, Finishing, Broken}
use Rattle.writer.specs.Closing.{record_of}
use Rattle.writer.specs.Replaying.{Replays}
use Rattle.writer.specs.States.{ended}
use Rattle.writer.specs.Views.{View, chunk_of, held_in}

-- a stamp counts where the token with it is in form
abbrev pub TokenAs : Bool → ℕ → ℕ → List ℕ → Result (Stamped × Token) Refusal → Type 0
TokenAs true least stamp octets r =
    (token : Token)
    × ((octets_in token.message ≡ octets)
    × (r ≡ Ok (record { least = least; stamp = stamp }, token)))
TokenAs false least stamp octets r = r ≡ Err refusal.Stamp

abbrev pub StampAs : Option (ℕ × List ℕ) → ℕ → Result (Stamped × Token) Refusal → Type 0
StampAs None least r = r ≡ Err refusal.Stamp
StampAs (Some given) least r = TokenAs (is_token given.1) least given.0 given.1 r

-- a set up that was granted
abbrev pub built_on : Reply → Stamped → Result SetUp Refusal
built_on (Ok _) q = Ok (record { least = q.least; stamp = q.stamp })
built_on (Err why) q = Err (refusal.Recovery why)

-- the pipeline is whole again, or broken by a packet that was lost
abbrev pub state_on : Option ℕ → Bool → State
state_on None true = Finishing
state_on None false = Streaming
state_on (Some n) finished = Broken (Put n) finished

abbrev pub is_lost : Option ℕ → Bool
is_lost None = false
is_lost (Some n) = true

-- the writer goes on, on these datanodes
abbrev pub restored : Option ℕ → ℕ → Token → List Datanode → ℕ → View → View
restored lost stamp token chain time v = record v {
  state = state_on lost (ended v.state);
  stamp = stamp;
  token = token;
  beaten = time;
  nodes = chain;
}

abbrev pub recovered : Replayed → Option (ℕ × ℕ) → Recovered
recovered q choice =
    record { choice = choice; stamp = q.stamp; replayed = q.replayed; put_lost = is_lost q.lost }

module _ {N : Type 0} (asks : NamenodeProtocol.Ghosts N) where
  -- from counted to stamped
  pub record StampsOn (least size : ℕ) (n : N) (r : Result (Stamped × Token) Refusal)
      (m : N) : Type 0 where
    pub came : Option (ℕ × List ℕ)
    pub acted : asks.stamps n size came m
    pub is : StampAs came least r

  -- from replayed to the end: the namenode is told, and where it accepts the writer goes on
  pub record UpdatesOn (q : Replayed) (token : Token) (choice : Option (ℕ × ℕ))
      (chain : List Datanode) (time : ℕ)
      (v : View) (n : N) (r : Result Recovered Refusal) (w : View) (m : N) : Type 0 where
    pub accepted : Bool
    pub acted : asks.updates n (entry_for q.stamp v.len chain) accepted m
    pub result : r ≡ (if accepted then Ok (recovered q choice) else Err refusal.Update)
    pub writer : w ≡ (if accepted then restored q.lost q.stamp token chain time v else v)

module _ {L : Type 0} (acts : Link.Ghosts L) where
  -- from stamped to set up: the old stamp stands in the block, and the new one beside it
  pub record SetsUpOn (v : View) (token : Token) (chain : List Datanode) (q : Stamped)
      (s : ChannelView L) (r : Result SetUp Refusal) (t : ChannelView L) : Type 0 where
    pub wanted : SetupRequest
    pub wants : Wants (record_of v) token v.terms.client_name SetupStreamingRecovery
        q.least v.len q.stamp (chunk_of v) wanted
    pub reply : Reply
    pub sets_up : SetsUp acts wanted chain s reply t
    pub is : r ≡ built_on reply q

  -- from set up to replayed: the held packets are put, the first where the least count ends
  pub record ReplaysOn (v : View) (store : List ℕ) (q : SetUp) (frame : List ℕ) (a : L)
      (r : Replayed) (frame' : List ℕ) (b : L) : Type 0 where
    pub replays : Replays acts (held_in v store q.least) frame a r.replayed r.lost frame' b
    pub stamp : r.stamp ≡ q.stamp
