-- Steps of a recovery put together. Assumes nothing.
use Rattle.std.proofs.Common.{◌≡◌, ℕ, List, Ok, Err, Result, refl, ap, subst, arith}
use Rattle.std.specs.Prelude.{MatchResult, ⊤}
use Rattle.proto.specs.declared.datanode.Datanode.{Datanode}
use Rattle.proto.specs.declared.token.Token.{Token}
use Rattle.request.specs.declared.stage.Stage.TheVariants.{SetupStreamingRecovery}
use Rattle.chain.specs.declared.link.Link as Link
use Rattle.pipeline.specs.declared.set_up.SetupRequest.{SetupRequest}
use Rattle.pipeline.specs.Channels.{ChannelView}
use Rattle.pipeline.specs.Replies.{Reply}
use Rattle.pipeline.specs.SetUps.{Wants, SetsUp}
use Rattle.writer.specs.declared.refusal.Refusal.{Refusal}
use Rattle.writer.specs.declared.refusal.Refusal.TheVariants as refusal
use Rattle.writer.specs.declared.recovery.SetUp.{SetUp}
use Rattle.writer.specs.declared.recovery.Stamped.{Stamped}
use Rattle.writer.specs.Calls.{Site}
use Rattle.writer.specs.Closing.{record_of}
use Rattle.writer.specs.Stages.{SetsUpOn, built_on}
use Rattle.writer.specs.Views.{View, chunk_of}

-- the reply to a set up, as a stage or a refusal
pub granted : (P : ⊤ → Type 0) (reply : Reply) (q : Stamped) → MatchResult reply P (λ _. ⊥) → ◌≡◌ {A = Result SetUp Refusal} (Ok (record { least = q.least; stamp = q.stamp })) (built_on reply q)
granted P (Ok _) q m = refl
granted P (Err why) q m = absurd m

pub refused : (reply : Reply) (q : Stamped) (x : Refusal) → MatchResult reply (λ u. ◌≡◌ {A = Result ⊤ Refusal} (Err x) (Ok u)) (λ why. x ≡ refusal.Recovery why) → ◌≡◌ {A = Result SetUp Refusal} (Err x) (built_on reply q)
refused (Ok _) q x m = absurd (let z : ◌≡◌ {A = ℕ} 0 1 = cc in omega arith)
refused (Err why) q x m = ap Err m

pub set_up_on : {L : Type 0} (acts : Link.Ghosts L) (v : View) (token : Token) (nodes chain : List Datanode) (q : Stamped) (s : ChannelView L) (reply : Reply) (r : Result SetUp Refusal) (t : ChannelView L) {wanted : SetupRequest}
    → SetsUp acts wanted nodes s reply t → nodes ≡ chain
    → Wants (record_of v) token v.terms.client_name SetupStreamingRecovery q.least v.len q.stamp (chunk_of v) wanted
    → r ≡ built_on reply q → SetsUpOn acts v token chain q s r t
set_up_on acts v token nodes chain q s reply r t {wanted} d e wants is = record {
  wanted = wanted;
  wants = wants;
  reply = reply;
  sets_up = subst (λ (ns : List Datanode). SetsUp acts wanted ns s reply t) e d;
  is = is;
}

-- what a recovery works on, with another view of the writer
pub with_view : {L N : Type 0} {store frame : List ℕ} {channel : ChannelView L} {namenode : N} {v w : View} → v ≡ w
    → ◌≡◌ {A = Site L N} (record { view = v; store = store; frame = frame; channel = channel; namenode = namenode })
    (record { view = w; store = store; frame = frame; channel = channel; namenode = namenode })
with_view {store = store} {frame = frame} {channel = channel} {namenode = namenode} e =
    ap (λ (u : View). record { view = u; store = store; frame = frame; channel = channel; namenode = namenode }) e
