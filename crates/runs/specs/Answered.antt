-- The datanodes of the set up of a recovery, where it got a response. Assumes nothing.
use Rattle.std.specs.Prelude.{ℕ, List, Some, None, Ok, Err, Option, Result}
use Rattle.proto.specs.declared.datanode.Datanode.{Datanode}
use Rattle.proto.specs.declared.token.Token.{Token}
use Rattle.chain.specs.declared.link.Link as Link
use Rattle.namenode.specs.declared.protocol.NamenodeProtocol as NamenodeProtocol
use Rattle.writer.specs.declared.recover.Recovered.{Recovered}
use Rattle.writer.specs.declared.recovery.Stamped.{Stamped}
use Rattle.writer.specs.declared.refusal.Refusal.{Refusal}
use Rattle.writer.specs.Calls.{Site, UnlessRefused}
use Rattle.writer.specs.Recovering.{Choice, beyond, AfterStamp, AfterChoice, IfSurvived, Recovers}

abbrev pub if_answered : Option (List ℕ) → List Datanode → Option (List Datanode)
if_answered (Some response) chain = Some chain
if_answered None chain = None

module _ {L N : Type 0} (acts : Link.Ghosts L) (asks : NamenodeProtocol.Ghosts N) (time : ℕ)
    (r : Result Recovered Refusal) (t : Site L N) where
  abbrev pub after_stamp : (x : Result (Stamped × Token) Refusal) (choice : Option (ℕ × ℕ))
      (chain : List Datanode) (s : Site L N)
      → AfterStamp acts asks x choice chain time s r t → Option (List Datanode)
  after_stamp (Ok q) choice chain s d = if_answered d.sets_up.sets_up.reply.came chain
  after_stamp (Err why) choice chain s d = None

  abbrev pub after_choice : (x : Choice) (chain : List Datanode) (s : Site L N)
      → AfterChoice acts asks x chain time s r t → Option (List Datanode)
  after_choice (Ok choice) chain s d =
      after_stamp d.stamped choice chain (record s { namenode = d.namenode }) d.follows
  after_choice (Err why) chain s d = None

  abbrev pub if_survived : (o : Option Refusal) (s : Site L N) → IfSurvived acts asks o time s r t
      → Option (List Datanode)
  if_survived (Some why) s d = None
  if_survived None s d =
      after_choice d.choice d.chain (record s { channel = d.channel; namenode = d.namenode })
      d.follows

  abbrev pub set_in : (o : Option Refusal) (s : Site L N)
      → UnlessRefused o (Recovers acts asks time) s r t → Option (List Datanode)
  set_in (Some why) s d = None
  set_in None s d = if_survived (beyond s.view) s d
