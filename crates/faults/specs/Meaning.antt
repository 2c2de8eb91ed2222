-- A pipeline with faults still means what a chain means. Assumes nothing.
use Rattle.std.specs.Prelude.{◌≡◌, ℕ, Bool, true, false, List, Some, None, Option, refl}
use Rattle.std.proofs.Common.{inl, inr, sym, ap, subst}
use Rattle.std.proofs.lemmas.Bool.{false≢true}
use Rattle.std.proofs.lemmas.Option.{none-some}
use Rattle.proto.specs.declared.datanode.Datanode.{Datanode}
use Rattle.chain.specs.Acts.{Came}
use Rattle.chain.specs.Meaning.{Seen, SetsUp}
use Rattle.chain.specs.Meaning as meaning
use Rattle.chain.specs.declared.link.Link as Link
use Rattle.faults.specs.declared.faulty_link.FaultyLink.{FaultyLink}
use Rattle.faults.specs.Links.{Spoils, Sets, Puts, Nexts, Transfers}

nothing_came : (request : List ℕ) (least : ℕ) (came : Option (List ℕ)) (s t : Seen) → came ≡ None → t ≡ s → SetsUp request least came s t
nothing_came request least None s t n e = e
nothing_came request least (Some r) s t n e = absurd (none-some r (sym n))

spoilt : (request : List ℕ) (least : ℕ) (own came : Option (List ℕ)) (s t : Seen) → Spoils own came → SetsUp request least own s t → SetsUp request least came s t
spoilt request least None came s t p e = nothing_came request least came s t p e
spoilt request least (Some r) (Some q) s t p e = e
spoilt request least (Some r) None s t p e = absurd p

module _ {C : Type 0} (acts : Link.Ghosts C) (seen : C → Seen) where
  pub setting : ((a b : C) (node : Datanode) (request : List ℕ) (least : ℕ) (came : Option (List ℕ)) → acts.sets a node request least came b → SetsUp request least came (seen a) (seen b))
      → (a b : FaultyLink C) (node : Datanode) (request : List ℕ) (least : ℕ) (came : Option (List ℕ)) → Sets acts a node request least came b → SetsUp request least came (seen a.inner) (seen b.inner)
  setting law a b node request least came (inl (d, inl (e, n)), l) = nothing_came request least came (seen a.inner) (seen b.inner) n (ap seen e)
  setting law a b node request least came (inl (d, inr (own, (act, p))), l) = spoilt request least own came (seen a.inner) (seen b.inner) p (law a.inner b.inner node request least own act)
  setting law a b node request least came (inr (d, act), l) = law a.inner b.inner node request least came act

  pub putting : ((a b : C) (frame : List ℕ) (taken : Bool) → acts.puts a frame taken b → meaning.Puts frame taken (seen a) (seen b))
      → (a b : FaultyLink C) (frame : List ℕ) (taken : Bool) → Puts acts a frame taken b → meaning.Puts frame taken (seen a.inner) (seen b.inner)
  putting law a b frame true (inl (d, (e, t)), m) = absurd (false≢true (sym t))
  putting law a b frame false (inl (d, (e, t)), m) = ap seen e
  putting law a b frame taken (inr (d, act), m) = law a.inner b.inner frame taken act

  pub answering : ((a b : C) (came : Came) → acts.nexts a came b → meaning.Nexts came (seen a) (seen b))
      → (a b : FaultyLink C) (came : Came) → Nexts acts seen a came b → meaning.Nexts came (seen a.inner) (seen b.inner)
  answering law a b came (inl (d, (e, stray))) = subst (λ t. meaning.Nexts came (seen a.inner) t) (sym (ap seen e)) (stray (seen a.inner) refl)
  answering law a b came (inr (d, act)) = law a.inner b.inner came act

  pub transferring : ((a b : C) (node : Datanode) (request : List ℕ) (came : Option (List ℕ)) → acts.transfers a node request came b → seen b ≡ seen a)
      → (a b : FaultyLink C) (node : Datanode) (request : List ℕ) (came : Option (List ℕ)) → Transfers acts a node request came b → seen b.inner ≡ seen a.inner
  transferring law a b node request came (inl (d, inl (e, n))) = ap seen e
  transferring law a b node request came (inl (d, inr (own, (act, p)))) = law a.inner b.inner node request own act
  transferring law a b node request came (inr (d, act)) = law a.inner b.inner node request came act
