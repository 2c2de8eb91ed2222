-- What a pipeline and a namenode must mean for the law to hold, each in one piece. Assumes nothing.
use Rattle.std.proofs.Common.{◌≡◌, ℕ, Bool, List, Option}
use Rattle.proto.specs.declared.datanode.Datanode.{Datanode}
use Rattle.chain.specs.declared.link.Link as Link
use Rattle.chain.specs.Acts.{Came}
use Rattle.chain.specs.Meaning.{Seen, SetsUp, Puts, Nexts}
use Rattle.namenode.specs.declared.protocol.NamenodeProtocol as NamenodeProtocol
use Rattle.namenode.specs.Entries.{Entry, Ask, Offer, Updates}

-- each act of a link has the meaning of a chain
pub record MeansChain {C : Type 0} (acts : Link.Ghosts C) (seen : C → Seen) : Type 0 where
  pub setting : (a b : C) (node : Datanode) (request : List ℕ) (least : ℕ) (came : Option (List ℕ)) → acts.sets a node request least came b → SetsUp request least came (seen a) (seen b)
  pub putting : (a b : C) (frame : List ℕ) (taken : Bool) → acts.puts a frame taken b → Puts frame taken (seen a) (seen b)
  pub answering : (a b : C) (came : Came) → acts.nexts a came b → Nexts came (seen a) (seen b)
  pub transferring : (a b : C) (node : Datanode) (request : List ℕ) (came : Option (List ℕ)) → acts.transfers a node request came b → seen b ≡ seen a

-- only an accepted update changes a namenode's entry
pub record MeansNamenode {N : Type 0} (asks : NamenodeProtocol.Ghosts N) (entry : N → Entry) : Type 0 where
  pub listing : (a b : N) (asked : Ask) (came : Option Offer) → asks.lists a asked came b → entry b ≡ entry a
  pub stamping : (a b : N) (size : ℕ) (came : Option (ℕ × List ℕ)) → asks.stamps a size came b → entry b ≡ entry a
  pub updating : (a b : N) (new : Entry) (accepted : Bool) → asks.updates a new accepted b → Updates new accepted (entry a) (entry b)
