-- A pipeline's datanodes told apart, to the last one. Assumes nothing.
use Rattle.std.proofs.Common.{◌≡◌, ◌+◌, ◌≤◌, Bool, true, false, cond, List, [], ◌∷◌, ◌++◌, ◌⊎◌, inl, inr, length, refl, sym, ap, ◌∙◌, arith}
use Rattle.std.specs.List.{count_by}
use Rattle.std.proofs.lemmas.List.Sums.{sum_by-cons}
use Rattle.proto.specs.declared.datanode.Datanode.{Datanode}
use Rattle.pipeline.specs.Survivors.{survivors, failed_of}

none_more : {X : Type 0} (xs : List X) → xs ++ [] ≡ xs
none_more [] = refl
none_more (x ∷ xs) = ap (λ z. x ∷ z) (none_more xs)

-- no datanode is left where one of the two lists has ended, since there are no fewer flags
pub none_left : {X Y I J : Type 0} {P : I → Type 0} {Q : J → Type 0} (nodes : List X) (flags : List Y)
    → ((x : I) × ((length nodes ≡ 0) × P x)) ⊎ ((y : J) × ((length flags ≡ 0) × Q y)) → length nodes ≤ length flags → length nodes ≡ 0
none_left nodes flags (inl e) h = e.1.0
none_left nodes flags (inr e) h = omega (arith, e.1.0)

nothing : (flags : List Bool) → (survivors flags [] ≡ []) × (failed_of flags [] ≡ [])
nothing [] = (refl, refl)
nothing (f ∷ flags) = (refl, refl)

module _ (flags : List Bool) where
  pub left_all : (nodes xs whole : List Datanode) → length nodes ≡ 0 → xs ++ survivors flags nodes ≡ whole → xs ≡ whole
  left_all [] xs whole n e = sym (ap (λ z. xs ++ z) (nothing flags).0 ∙ none_more xs) ∙ e
  left_all (x ∷ nodes) xs whole n e = absurd (omega (arith, n))

  pub gone_all : (nodes xs whole : List Datanode) → length nodes ≡ 0 → xs ++ failed_of flags nodes ≡ whole → xs ≡ whole
  gone_all [] xs whole n e = sym (ap (λ z. xs ++ z) (nothing flags).1 ∙ none_more xs) ∙ e
  gone_all (x ∷ nodes) xs whole n e = absurd (omega (arith, n))

flagged : (b : Bool) (bs : List Bool) → count_by (λ b. b) (b ∷ bs) ≡ cond b 1 0 + count_by (λ b. b) bs
flagged b bs = sum_by-cons (λ (x : Bool). cond x 1 0) b bs

-- all but the flagged ones are left
pub all_but : (flags : List Bool) (nodes : List Datanode) → length nodes ≤ length (survivors flags nodes) + count_by (λ b. b) flags
all_but [] nodes = omega arith
all_but (f ∷ flags) [] = omega arith
all_but (true ∷ flags) (n ∷ nodes) = let r = all_but flags nodes in omega (arith, r, flagged true flags)
all_but (false ∷ flags) (n ∷ nodes) = let r = all_but flags nodes in omega (arith, r, flagged false flags)
