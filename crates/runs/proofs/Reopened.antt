-- What a writer, its pipeline and the namenode's entry are after a recovery: closed, or open again. Assumes nothing.
use Rattle.std.proofs.Common.{◌≡◌, ℕ, Bool, true, false, List, ◌++◌, length, Some, None, Option, sym, refl, ap, ◌∙◌}
use Rattle.std.proofs.lemmas.Option.{none-some}
use Rattle.packet.specs.Frame.{Packet}
use Rattle.proto.specs.declared.datanode.Datanode.{Datanode}
use Rattle.proto.specs.declared.token.Token.{Token}
use Rattle.held.specs.Slots.{packets, bytes_of}
use Rattle.chain.specs.Meaning.{Seen}
use Rattle.namenode.specs.Entries.{Entry, entry_for}
use Rattle.writer.specs.declared.admit.Call.TheVariants as call
use Rattle.writer.specs.declared.admit.Lengths.{Lengths}
use Rattle.writer.specs.declared.state.kind.State.{State}
use Rattle.writer.specs.declared.state.kind.State.TheVariants.{Streaming, Finishing, Broken, Complete, Closed}
use Rattle.writer.specs.Admits.{by_state, refusal_for}
use Rattle.writer.specs.Stages.{state_on, restored}
use Rattle.writer.specs.Sizes.{capacity}
use Rattle.writer.specs.States.{ended, IsBrokenState}
use Rattle.writer.specs.Views.{View, chunk_of, with_state, held_in, filling_in}
use Rattle.writer.proofs.Admitted.{fits_state}
use Rattle.runs.specs.History.{History, rebuilt}
use Rattle.runs.specs.Law.{Whole}
use Rattle.runs.proofs.Invariant.{Holds, Flows, Sofar, Confirmed, Entered}
use Rattle.runs.proofs.States.{whole_as}

-- what is true after a recovery: the history's chain is that of a set up that was answered
pub record Rebuilt (h : History) (v w : View) (store : List ℕ) (x : Seen) (e : Entry) : Type 0 where
  pub holds : Holds h w store x
  pub entered : Entered w h.chain e
  pub terms : w.terms ≡ v.terms

-- only a broken pipeline is recovered
recovers_broken : (s : State) → by_state s call.Recover ≡ None → IsBrokenState s
recovers_broken Streaming e = none-some _ (sym e)
recovers_broken Finishing e = none-some _ (sym e)
recovers_broken (Broken cause finished) e = tt
recovers_broken Complete e = none-some _ (sym e)
recovers_broken Closed e = none-some _ (sym e)

pub breaks_recover : (v : View) (l : Lengths) → refusal_for v call.Recover l ≡ None → IsBrokenState v.state
breaks_recover v l e = recovers_broken v.state (fits_state v call.Recover l e)

broken_so_far : (s : State) (first count : ℕ) (ps : List Packet) → IsBrokenState s → Confirmed s first count ps → Sofar first ps
broken_so_far Streaming first count ps b c = absurd b
broken_so_far Finishing first count ps b c = absurd b
broken_so_far (Broken cause finished) first count ps b c = c
broken_so_far Complete first count ps b c = absurd b
broken_so_far Closed first count ps b c = absurd b

-- the state that a recovery leaves
ended_on : (lost : Option ℕ) (finished : Bool) → ended (state_on lost finished) ≡ finished
ended_on None true = refl
ended_on None false = refl
ended_on (Some n) finished = refl

flows_on : (lost : Option ℕ) (finished : Bool) (pending ps : List Packet) → (lost ≡ None → pending ≡ ps) → Flows (state_on lost finished) pending ps
flows_on None true pending ps e = e refl
flows_on None false pending ps e = e refl
flows_on (Some n) finished pending ps e = tt

confirmed_on : (lost : Option ℕ) (finished : Bool) (first count : ℕ) (ps : List Packet) → Sofar first ps → Confirmed (state_on lost finished) first count ps
confirmed_on None true first count ps c = c
confirmed_on None false first count ps c = c
confirmed_on (Some n) finished first count ps c = c

-- the far end keeps what it kept
module _ (h : History) (v : View) (store : List ℕ) (x y : Seen) (s : Holds h v store x) (same : y.kept ≡ x.kept) where
  whole_in : (state : State) → Whole h (with_state state v) store y
  whole_in state = ap (λ (l : List ℕ). l ++ (bytes_of (held_in (with_state state v) store (length l)) ++ filling_in v store)) same ∙ whole_as h v state store x s.whole

  -- of a closed writer the bytes alone are known
  shut_on : (chain : List Datanode) (e : Entry) → Rebuilt (rebuilt h (Some chain)) v (with_state Closed v) store y e
  shut_on chain e = record {
    holds = record { store_len = s.store_len; whole = whole_in Closed; len = s.len; flows = tt; told = s.told; confirmed = tt };
    entered = λ is. absurd is;
    terms = refl;
  }

  pub shut : (set : Option (List Datanode)) (e : Entry) → Rebuilt (rebuilt h set) v (with_state Closed v) store y e
  shut (Some chain) e = shut_on chain e
  shut None e = shut_on h.chain e

  -- all held packets were put again, or one was lost, and the namenode has the new stamp and datanodes
  pub open_again : (lost : Option ℕ) (stamp : ℕ) (token : Token) (chain : List Datanode) (time : ℕ) (e : Entry) → IsBrokenState v.state
      → (lost ≡ None → y.pending ≡ held_in v store (length x.kept)) → e ≡ entry_for stamp v.len chain
      → Rebuilt (rebuilt h (Some chain)) v (restored lost stamp token chain time v) store y e
  open_again lost stamp token chain time e broken flows is = record {
    holds = record {
      store_len = s.store_len;
      whole = whole_in (state_on lost (ended v.state));
      len = s.len;
      flows = flows_on lost (ended v.state) y.pending _ (λ none. flows none ∙ held_same);
      told = s.told;
      confirmed = confirmed_on lost (ended v.state) v.first v.count h.confirmed (broken_so_far v.state v.first v.count h.confirmed broken s.confirmed);
    };
    entered = λ still. record {
      stamp_is = ap (λ (z : Entry). z.stamp) is;
      ids = ap (λ (z : Entry). z.ids) is;
      storages = ap (λ (z : Entry). z.storages) is;
    };
    terms = refl;
  }
    where
      held_same : held_in v store (length x.kept) ≡ held_in (restored lost stamp token chain time v) store (length y.kept)
      held_same =
          ap (λ (b : Bool). packets (chunk_of v) (capacity v.terms) v.terms.slots v.sizes store b v.count v.first (length x.kept)) (sym (ended_on lost (ended v.state)))
          ∙ ap (λ (l : List ℕ). held_in (restored lost stamp token chain time v) store (length l)) (sym same)
