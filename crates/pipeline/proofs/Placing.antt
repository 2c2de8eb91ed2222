-- A list written place by place. Assumes nothing.
use Rattle.std.proofs.Common.{◌≡◌, ℕ, ◌+◌, ◌<◌, ◌≤◌, List, [], ◌∷◌, ◌++◌, length, get_or, take, drop, set, sym, ap, ◌∙◌, append_assoc, add-one, arith}
use Rattle.std.proofs.lemmas.List.{length-append, length-take-le, set_split, take_all, take_at, take_more, drop_all}
use Rattle.pipeline.specs.Places.{placed}

module _ {X : Type 0} where
  pub at_place : (xs : List X) (i : ℕ) (x : X) → i < length xs → set xs i x ≡ placed xs i x
  at_place xs i x h = rw add-one (set_split xs i x h)

  pub at_end : (xs : List X) (i : ℕ) (x : X) → length xs ≡ i → xs ++ x ∷ [] ≡ placed xs i x
  at_end xs i x h =
      let t : take i xs ≡ xs = take_all i xs (omega arith) in
      let d : drop (i + 1) xs ≡ [] = drop_all (i + 1) xs (omega arith) in
      sym (λ k. t k ++ x ∷ d k)

  -- the list so far is that front of another: with its next element the next front
  module _ (xs zs : List X) (i : ℕ) (x : X) (h : i < length zs) (e : x ≡ get_or zs i x) (inv : take i xs ≡ take i zs) (w : i ≤ length xs) where
    pub next : take (i + 1) (placed xs i x) ≡ take (i + 1) zs
    next =
        let l : length (take i xs ++ x ∷ []) ≡ i + 1 = length-append (take i xs) (x ∷ []) ∙ omega (arith, length-take-le i xs w) in
        let a : placed xs i x ≡ (take i xs ++ x ∷ []) ++ drop (i + 1) xs = sym (append_assoc (take i xs) (x ∷ []) (drop (i + 1) xs)) in
        ap (take (i + 1)) a ∙ take_at (take i xs ++ x ∷ []) (drop (i + 1) xs) (i + 1) l
        ∙ (λ k. inv k ++ e k ∷ [])
        ∙ sym (take_more zs i x h)

    pub longer : i + 1 ≤ length (placed xs i x)
    longer = omega (arith, length-append (take i xs) (x ∷ drop (i + 1) xs), length-take-le i xs w)
