-- A line ends before the first newline. Assumes nothing.
use Rattle.std.proofs.Common.{◌≡◌, ℕ, suc, Bool, true, false, not, cond, eqb, ltb, ◌+◌, List, [], ◌∷◌, length, take, Option, Some, None, sym, refl, ap, ◌∙◌, ⊎_elim, arith}
use Rattle.std.specs.List.{prefix_len, position_or_len, position}
use Rattle.std.specs.Option.{unwrap_or}
use Rattle.std.proofs.lemmas.List.{take_all}
use Rattle.std.proofs.lemmas.Bool.{cond-true, cond-false, lt-ltb, le-ltb, cases_lt}
use Rattle.recording.specs.Lines.{line_of}

abbrev ends : ℕ → Bool
ends b = eqb b 10

up_to : (xs : List ℕ) → take (position_or_len ends xs) xs ≡ line_of xs
up_to [] = refl
up_to (x ∷ xs) = go (eqb x 10) (up_to xs)
  where
    go : (b : Bool) → take (prefix_len (λ y. not (ends y)) xs) xs ≡ line_of xs → take (cond (not b) (1 + prefix_len (λ y. not (ends y)) xs) 0) (x ∷ xs) ≡ cond b [] (x ∷ line_of xs)
    go true e = refl
    go false e =
        let n = prefix_len (λ y. not (ends y)) xs in
        let more : 1 + n ≡ suc n = omega arith in
        ap (λ k. take k (x ∷ xs)) more ∙ ap (λ l. x ∷ l) e

-- what the code takes
pub line_is : (xs : List ℕ) (r : Option ℕ) (n : ℕ) → r ≡ position ends xs → n ≡ unwrap_or r (length xs) → take n xs ≡ line_of xs
line_is xs r n e k =
    let m = position_or_len ends xs in
    ⊎_elim
    (λ lt. let s = e ∙ cond-true (ltb m (length xs)) (Some m) None (lt-ltb m (length xs) lt) in ap (λ i. take i xs) (k ∙ ap (λ o. unwrap_or o (length xs)) s))
    (λ ge. let s = e ∙ cond-false (ltb m (length xs)) (Some m) None (le-ltb m (length xs) ge) in
    ap (λ i. take i xs) (k ∙ ap (λ o. unwrap_or o (length xs)) s) ∙ take_all (length xs) xs (omega arith) ∙ sym (take_all m xs ge))
    (cases_lt m (length xs))
    ∙ up_to xs
