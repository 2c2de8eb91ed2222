-- A broken pipeline rebuilt, stage by stage. What each stage came to decides whether the next one follows. Assumes
-- nothing.
use Rattle.std.specs.Prelude.{◌≡◌, ℕ, ◌≤◌, Bool, true, false, if◌then◌else◌, List, length, Some, None, Ok, Err, Option, Result, nat_le}
use Rattle.proto.specs.declared.datanode.Datanode.{Datanode}
use Rattle.proto.specs.declared.token.Token.{Token}
use Rattle.replace.specs.Decision.{should_replace}
use Rattle.chain.specs.declared.link.Link as Link
use Rattle.namenode.specs.declared.protocol.NamenodeProtocol as NamenodeProtocol
use Rattle.pipeline.specs.declared.add_datanode.NoDatanode.{NoDatanode}
use Rattle.pipeline.specs.Channels.{ChannelView}
use Rattle.pipeline.specs.Adding.{Added, Adds}
use Rattle.pipeline.specs.Survivors.{survivors, failed_of}
use Rattle.writer.specs.declared.recover.Recovered.{Recovered}
use Rattle.writer.specs.declared.recovery.Replayed.{Replayed}
use Rattle.writer.specs.declared.recovery.SetUp.{SetUp}
use Rattle.writer.specs.declared.recovery.Stamped.{Stamped}
use Rattle.writer.specs.declared.refusal.Refusal.{Refusal}
use Rattle.writer.specs.declared.refusal.Refusal.TheVariants as refusal
use Rattle.writer.specs.declared.state.kind.State.TheVariants.{Closed}
use Rattle.writer.specs.Calls.{Site}
use Rattle.writer.specs.Closing.{record_of}
use Rattle.writer.specs.Stages.{StampsOn, SetsUpOn, ReplaysOn, UpdatesOn}
use Rattle.writer.specs.States.{failed_on}
use Rattle.writer.specs.Views.{View, least_of, with_state}

abbrev pub left_of : View → List Datanode
left_of v = survivors (failed_on v.state).positions v.nodes

abbrev pub gone_of : View → List Datanode
gone_of v = failed_of (failed_on v.state).positions v.nodes

-- as many failed as there are datanodes, or more; or a position lies past the pipeline
abbrev pub beyond : View → Option Refusal
beyond v =
    if nat_le (length v.nodes) (failed_on v.state).count then Some refusal.AllFailed else
    (if nat_le (length v.nodes) (failed_on v.state).highest then Some refusal.PastPipeline else
    None)

-- where there is no such refusal, those that are left, of whom there are some, and those that are gone
abbrev pub Ready : Option Refusal → View → List Datanode → List Datanode → Type 0
Ready (Some refusal) v left gone = Unit {0}
Ready None v left gone = (left ≡ left_of v) × (gone ≡ gone_of v) × (1 ≤ length left)

-- the policy, by those that are left and the length that the block was opened with
abbrev pub needs_datanode : View → Bool
needs_datanode v =
    should_replace v.terms.replace.policy v.terms.replication (length (left_of v))
    v.terms.initial_len

-- the positions of a new datanode and its source; or none, where the policy wants none or best effort goes on without
abbrev pub Choice : Type 0
Choice = Result (Option (ℕ × ℕ)) NoDatanode

abbrev pub choice_on : Bool → Added → Choice
choice_on best (Ok places) = Ok (Some places)
choice_on true (Err why) = Ok None
choice_on false (Err why) = Err why

-- the list with the new datanode is the new pipeline, and else those that are left
abbrev pub chain_on : Added → List Datanode → List Datanode → List Datanode
chain_on (Ok places) left list = list
chain_on (Err why) left list = left

module _ {L N : Type 0} (acts : Link.Ghosts L) (asks : NamenodeProtocol.Ghosts N) where
  -- a datanode added, or why not
  pub record Replaces (v : View) (s : ChannelView L) (n : N) (r : Choice) (chain : List Datanode)
      (t : ChannelView L) (m : N) : Type 0 where
    pub table : List Datanode
    pub list : List Datanode
    pub added : Added
    pub adds : Adds acts asks (record_of v) v.terms.client_name
        v.nodes (left_of v) (gone_of v) table list s n added t m
    pub result : r ≡ choice_on v.terms.replace.best_effort added
    pub is : chain ≡ chain_on added (left_of v) list

  -- the new pipeline
  abbrev pub ChoosesIf : Bool → View → ChannelView L → N → Choice → List Datanode → ChannelView L
      → N → Type 0
  ChoosesIf true v s n r chain t m = Replaces v s n r chain t m
  ChoosesIf false v s n r chain t m = (r ≡ Ok None) × (chain ≡ left_of v) × (t ≡ s) × (m ≡ n)

  -- refused at some stage: the writer is closed, and what the stages before have left stays
  abbrev pub ClosedBy : Refusal → Site L N → Result Recovered Refusal → Site L N → Type 0
  ClosedBy why s r t = (r ≡ Err why) × (t ≡ record s { view = with_state Closed s.view })

  abbrev pub AfterUpdate : Result Recovered Refusal → Site L N → Result Recovered Refusal → Site L N
      → Type 0
  AfterUpdate (Ok x) s r t = (r ≡ Ok x) × (t ≡ s)
  AfterUpdate (Err why) s r t = ClosedBy why s r t

  -- set up: all held packets are put again, and the namenode is told
  pub record Resumes (q : SetUp) (token : Token) (choice : Option (ℕ × ℕ)) (chain : List Datanode)
      (time : ℕ) (s : Site L N) (r : Result Recovered Refusal) (t : Site L N) : Type 0 where
    pub replayed : Replayed
    pub frame : List ℕ
    pub link : L
    pub replays : ReplaysOn acts s.view s.store q s.frame s.channel.link replayed frame link
    pub told : Result Recovered Refusal
    pub view : View
    pub namenode : N
    pub updates : UpdatesOn asks replayed token choice chain time
        s.view s.namenode told view namenode
    pub follows : AfterUpdate told
        (record s {
          view = view;
          frame = frame;
          channel = record s.channel { link = link };
          namenode = namenode;
        }) r t

  abbrev pub AfterSetUp : Result SetUp Refusal → Token → Option (ℕ × ℕ) → List Datanode → ℕ
      → Site L N → Result Recovered Refusal → Site L N → Type 0
  AfterSetUp (Ok q) token choice chain time s r t = Resumes q token choice chain time s r t
  AfterSetUp (Err why) token choice chain time s r t = ClosedBy why s r t

  -- stamped: the pipeline is set up
  pub record Builds (q : Stamped) (token : Token) (choice : Option (ℕ × ℕ)) (chain : List Datanode)
      (time : ℕ) (s : Site L N) (r : Result Recovered Refusal) (t : Site L N) : Type 0 where
    pub set_up : Result SetUp Refusal
    pub channel : ChannelView L
    pub sets_up : SetsUpOn acts s.view token chain q s.channel set_up channel
    pub follows : AfterSetUp set_up token choice chain time (record s { channel = channel }) r t

  abbrev pub AfterStamp : Result (Stamped × Token) Refusal → Option (ℕ × ℕ) → List Datanode → ℕ
      → Site L N → Result Recovered Refusal → Site L N → Type 0
  AfterStamp (Ok q) choice chain time s r t = Builds q.0 q.1 choice chain time s r t
  AfterStamp (Err why) choice chain time s r t = ClosedBy why s r t

  -- counted: the namenode is asked for a stamp
  pub record RebuildsOn (choice : Option (ℕ × ℕ)) (chain : List Datanode) (time : ℕ)
      (s : Site L N) (r : Result Recovered Refusal) (t : Site L N) : Type 0 where
    pub stamped : Result (Stamped × Token) Refusal
    pub namenode : N
    pub stamps : StampsOn asks (least_of s.view) s.view.len s.namenode stamped namenode
    pub follows : AfterStamp stamped choice chain time (record s { namenode = namenode }) r t

  abbrev pub AfterChoice : Choice → List Datanode → ℕ → Site L N → Result Recovered Refusal
      → Site L N → Type 0
  AfterChoice (Ok choice) chain time s r t = RebuildsOn choice chain time s r t
  AfterChoice (Err why) chain time s r t = ClosedBy (refusal.Replacement why) s r t

  -- a pipeline is chosen
  pub record ChoosesAndRebuilds (time : ℕ) (s : Site L N) (r : Result Recovered Refusal)
      (t : Site L N) : Type 0 where
    pub choice : Choice
    pub chain : List Datanode
    pub channel : ChannelView L
    pub namenode : N
    pub chooses : ChoosesIf (needs_datanode s.view) s.view s.channel s.namenode choice chain channel namenode
    pub follows : AfterChoice choice chain time
        (record s { channel = channel; namenode = namenode }) r t

  abbrev pub IfSurvived : Option Refusal → ℕ → Site L N → Result Recovered Refusal → Site L N
      → Type 0
  IfSurvived (Some why) time s r t = ClosedBy why s r t
  IfSurvived None time s r t = ChoosesAndRebuilds time s r t

  abbrev pub Recovers : ℕ → Site L N → Result Recovered Refusal → Site L N → Type 0
  Recovers time s r t = IfSurvived (beyond s.view) time s r t
