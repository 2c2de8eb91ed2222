-- A block that was opened without refusal has the invariant. Assumes nothing.
use Rattle.std.proofs.Common.{◌≡◌, ℕ, List, [], length, Some, None, Ok, Err, Option, Result, sym, refl, ap, ◌∙◌, arith}
use Rattle.std.proofs.lemmas.List.{append-nil, take_all}
use Rattle.std.proofs.lemmas.Option.{none-some}
use Rattle.std.specs.Bool.{⊤}
use Rattle.proto.specs.declared.datanode.Datanode.{Datanode}
use Rattle.proto.specs.declared.token.Token.{Token}
use Rattle.request.specs.declared.setup.Setup.{Setup}
use Rattle.pipeline.specs.declared.set_up.SetupRequest.{SetupRequest}
use Rattle.held.specs.Slots.{slot_of}
use Rattle.chain.specs.declared.link.Link as Link
use Rattle.chain.specs.Meaning.{Seen, rebuilt}
use Rattle.namenode.specs.Entries.{Entry}
use Rattle.pipeline.specs.Channels.{ChannelView, channel_over}
use Rattle.pipeline.specs.Replies.{Reply, reply_of}
use Rattle.pipeline.specs.SetUps
use Rattle.writer.specs.declared.admit.Lengths.{Lengths}
use Rattle.writer.specs.declared.opening.Opening.{Opening}
use Rattle.writer.specs.declared.refusal.Refusal.{Refusal}
use Rattle.writer.specs.declared.terms.Terms.{Terms}
use Rattle.writer.specs.Admits.{lengths_of}
use Rattle.writer.specs.Sizes.{capacity}
use Rattle.writer.specs.Opening.{Fresh, Started, SetsUpFor, Opens, open_refusal}
use Rattle.writer.specs.Views.{View, view_of, next_of, filling_in}
use Rattle.runs.specs.Begins.{Begins}
use Rattle.runs.specs.History.{begun}
use Rattle.runs.specs.Runs.{Point}
use Rattle.runs.proofs.Means.{MeansChain}
use Rattle.runs.proofs.Heeds.{held_none}
use Rattle.runs.proofs.States.{flows_as}
use Rattle.runs.proofs.Invariant.{Holds, Entered}

ok_lost : {A E : Type 0} (x : A) (e : E) → ◌≡◌ {A = Result A E} (Ok x) (Err e) → ⊥
ok_lost x e is = let z : ◌≡◌ {A = ℕ} 0 1 = cc in omega arith

-- where a set up was granted, a response came, and the pipeline is anew
module _ {C : Type 0} (acts : Link.Ghosts C) (seen : C → Seen) (means : MeansChain acts seen) where
  pub record Anew (least : ℕ) (a b : C) : Type 0 where
    pub setup : Setup
    pub is : seen b ≡ rebuilt setup least (seen a)

  answered_anew : (a b : C) (node : Datanode) (request : List ℕ) (least : ℕ) (came : Option (List ℕ)) (u : ⊤) → Ok u ≡ reply_of came → acts.sets a node request least came b → Anew least a b
  answered_anew a b node request least None u e act = absurd (ok_lost _ _ e)
  answered_anew a b node request least (Some response) u e act = let d = means.setting a b node request least (Some response) act in record { setup = d.setup; is = d.is }

  pub set_up_anew : (w : SetupRequest) (nodes : List Datanode) (s t : ChannelView C) (u : ⊤)
      → SetUps.SetsUp acts w nodes s (Ok u) t → Anew w.min_bytes s.link t.link
  set_up_anew w nodes s t u d = answered_anew s.link t.link d.message.first.now (SetUps.octets_of d.message) w.min_bytes d.reply.came u d.reply.is d.reply.acted

-- a writer that has taken nothing yet
fresh_holds : (o : Opening) (l : Lengths) (shown : Token) (chain nodes : List Datanode) (v : View) (store : List ℕ) (x y : Seen) (setup : Setup) → l.store ≡ length store
    → Fresh o l shown chain v → length x.kept ≡ o.initial_len → y ≡ rebuilt setup o.initial_len x → Holds (begun x.kept nodes) v store y
fresh_holds o l shown chain nodes v store x y setup long f initial is =
    let kept : y.kept ≡ x.kept = ap (λ (z : Seen). z.kept) is ∙ take_all o.initial_len x.kept (omega (arith, initial)) in
    let pending : y.pending ≡ [] = ap (λ (z : Seen). z.pending) is in
    let none = held_none v store (length y.kept) (omega (arith, f.count)) in
    let unfilled : filling_in v store ≡ [] = ap (λ (n : ℕ). slot_of (capacity v.terms) v.terms.slots store (next_of v) n) f.filling in
    record {
      store_len = sym (f.terms.store ∙ long);
      whole = rw (none, unfilled, kept) refl;
      len = f.len ∙ sym initial ∙ ap length (sym (append-nil x.kept));
      flows = flows_as v.state y.pending _ (pending ∙ sym none);
      told = refl;
      confirmed = rw (f.state, f.first) (refl, refl);
    }

module _ {C N : Type 0} (acts : Link.Ghosts C) (seen : C → Seen) (entry : N → Entry) (means : MeansChain acts seen) where
  module _ (o : Opening) (l : Lengths) (s t : ChannelView C) (nodes : List Datanode) (v : View) (store : List ℕ) (long : l.store ≡ length store) (initial : length (seen s.link).kept ≡ o.initial_len) where
    record Began : Type 0 where
      holds : Holds (begun (seen s.link).kept nodes) v store (seen t.link)
      stamp : v.stamp ≡ o.stamp

    of_reply : (reply : Reply) (token : Token) (terms : Terms) (chain : List Datanode)
        → SetsUpFor acts o terms token chain s reply t → Started reply o l token chain None v → Began
    of_reply (Ok u) token terms chain d f =
        let n = set_up_anew acts seen means d.wanted chain s t u d.sets_up in
        record {
          holds = fresh_holds o l token chain nodes v store (seen s.link) (seen t.link) n.setup long f.1 initial (n.is ∙ ap (λ (k : ℕ). rebuilt n.setup k (seen s.link)) d.wants.of_least);
          stamp = f.1.stamp;
        }
    of_reply (Err why) token terms chain d f = absurd (none-some _ f.0)

    of_refusal : (r : Option Refusal) → Opens acts r o l s None v t → Began
    of_refusal (Some refusal) d = absurd (none-some _ d.0)
    of_refusal None d = of_reply d.reply d.token d.terms d.nodes d.sets_up d.follows

  pub opened : (o : Opening) (link : C) (p : Point C N) → Begins acts seen entry o link p
      → Holds p.history (view_of p.writer) p.store (seen p.link) × Entered (view_of p.writer) p.history.chain (entry p.namenode)
  opened o link p b =
      let l = lengths_of p.store b.frame b.request b.answer in
      let k = of_refusal o l (channel_over link b.request b.answer) (channel_over p.link b.request' b.answer') b.nodes (view_of p.writer) p.store refl b.initial (open_refusal o l) b.opens in
      (rw b.history k.holds, λ z. rw b.history (record { stamp_is = b.stamp ∙ sym k.stamp; ids = b.ids; storages = b.storages }))
