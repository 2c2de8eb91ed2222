-- From the invariant the law. Assumes nothing.
use Rattle.std.proofs.Common.{◌≡◌, ℕ, List, [], ◌++◌, length, Ok, Err, Result, sym, refl, ap, ◌∙◌, subst, arith}
use Rattle.std.proofs.lemmas.List.{append-nil}
use Rattle.packet.specs.Frame.{Packet}
use Rattle.proto.specs.declared.block.ExtendedBlock.{ExtendedBlock}
use Rattle.held.specs.Slots.{below, slot_of, bytes_of}
use Rattle.chain.specs.Meaning.{Seen}
use Rattle.namenode.specs.Entries.{Entry}
use Rattle.writer.specs.declared.state.kind.State.{State}
use Rattle.writer.specs.declared.state.kind.State.TheVariants.{Streaming, Finishing, Broken, Complete, Closed}
use Rattle.writer.specs.Closing.{record_of, closes_in}
use Rattle.writer.specs.Sizes.{capacity}
use Rattle.writer.specs.States.{ended}
use Rattle.writer.specs.Views.{View, view_of, next_of, filling_in}
use Rattle.runs.specs.History.{History}
use Rattle.runs.specs.Law.{Order, Enters, Law}
use Rattle.runs.specs.Runs.{Point}
use Rattle.runs.proofs.Heeds.{held_none}
use Rattle.runs.proofs.Invariant.{Fit, fit_of, All, Confirmed, Holds, IsOpen, Entered}

err_ok : {A E : Type 0} (x : A) (e : E) → ◌≡◌ {A = Result A E} (Err e) (Ok x) → ⊥
err_ok x e is = let z : ◌≡◌ {A = ℕ} 0 1 = cc in omega arith

ok_same : {A E : Type 0} (x y : A) → ◌≡◌ {A = Result A E} (Ok x) (Ok y) → x ≡ y
ok_same x y e = cc

-- close gives a record of a complete block alone
complete_of : (s : State) (v : View) (b : ExtendedBlock) → closes_in s v ≡ Ok b → (s ≡ Complete) × (b ≡ record_of v)
complete_of Complete v b e = (refl, sym (ok_same _ _ e))
complete_of Streaming v b e = absurd (err_ok _ _ e)
complete_of Finishing v b e = absurd (err_ok _ _ e)
complete_of (Broken cause finished) v b e = absurd (err_ok _ _ e)
complete_of Closed v b e = absurd (err_ok _ _ e)

module _ (h : History) (v : View) (store : List ℕ) (x : Seen) (fit : Fit v (length store)) (holds : Holds h v store x) (done : v.state ≡ Complete) where
  all : All v.first v.count h.confirmed
  all = subst (λ (s : State). Confirmed s v.first v.count h.confirmed) done holds.confirmed

  unfilled : v.filling ≡ 0
  unfilled = fit.done (ap ended done)

  kept_all : x.kept ≡ h.initial ++ h.accepted
  kept_all =
      let none = held_none v store (length x.kept) (omega (arith, all.none)) in
      let empty : filling_in v store ≡ [] = ap (λ (n : ℕ). slot_of (capacity v.terms) v.terms.slots store (next_of v) n) unfilled in
      sym (ap (λ (ps : List Packet). x.kept ++ (bytes_of ps ++ filling_in v store)) none ∙ ap (λ (l : List ℕ). x.kept ++ l) empty ∙ append-nil x.kept) ∙ holds.whole

  pub ordered : (b : ExtendedBlock) → b ≡ record_of v → Order h x b
  ordered b is = record {
    last = all.last;
    numbers = all.numbers ∙ ap below all.ends;
    flags = all.flags;
    bytes = kept_all;
    size = ap (λ (z : ExtendedBlock). z.num_bytes) is ∙ holds.len;
  }

  pub entered : (e : Entry) (b : ExtendedBlock) → b ≡ record_of v → Entered v h.chain e → Enters h e b
  entered e b is named =
      let n = named (subst IsOpen (sym done) tt) in
      record {
        stamp = n.stamp_is ∙ sym (ap (λ (z : ExtendedBlock). z.generation_stamp) is);
        ids = n.ids;
        storages = n.storages;
      }

module _ {C N : Type 0} (seen : C → Seen) (entry : N → Entry) where
  pub lawful : (p : Point C N) → Holds p.history (view_of p.writer) p.store (seen p.link) → Entered (view_of p.writer) p.history.chain (entry p.namenode) → Law seen entry p
  lawful p holds named =
      let v = view_of p.writer in
      let fit = fit_of p.writer (length p.store) holds.store_len in
      record {
        whole = holds.whole;
        told = holds.told;
        order = λ b e. let c = complete_of v.state v b e in ordered p.history v p.store (seen p.link) fit holds c.0 b c.1;
        enters = λ b e. let c = complete_of v.state v b e in entered p.history v p.store (seen p.link) fit holds c.0 (entry p.namenode) b c.1 named;
      }
