-- One turn of the loops over a text's octets and over a message's rules. Assumes nothing.
use Rattle.std.proofs.Common.{◌≡◌, ℕ, ◌+◌, ◌<◌, ◌≤◌, Bool, true, false, ◌&&◌, eqb, List, [], ◌∷◌, length, get_or, drop, Option, refl, sym, ap, ◌∙◌, arith, zero, suc, MatchBool, MatchResult, Result, Ok, Err, None, Some, subst, add-one}
use Rattle.std.specs.Result.{result_ok}
use Rattle.std.proofs.lemmas.List.{at_drop_more, at_drop_all}
use Rattle.std.proofs.lemmas.Bool.{lt-ltb, le-ltb, and_from, and_right}
use Rattle.std.specs.Str.{IsAscii, IsNotAscii}
use Rattle.proto.specs.declared.form.Rule.{Rule}
use Rattle.proto.specs.Form.{is_ascii, rule_at, from, form_from}

-- the library's answer on a text
pub ascii_is : (bs : List ℕ) (t : Bool) → MatchBool t (IsAscii bs) (IsNotAscii bs) → t ≡ is_ascii bs
ascii_is [] true h = refl
ascii_is [] false h = absurd (omega (arith, h.1))
ascii_is (b ∷ bs) true h = sym (and_from _ _ (lt-ltb b 128 (h 0)) (sym (ascii_is bs true (λ k. rw add-one at (h (k + 1))))))
ascii_is (b ∷ bs) false (zero, h) = sym (ap (λ z. z && is_ascii bs) (le-ltb b 128 h))
ascii_is (b ∷ bs) false (suc k, h) = sym (and_right _ _ (sym (ascii_is bs false (k, h))))

module _ (rules : List Rule) (bs : List ℕ) (i at : ℕ) (d : Rule) (h : i < length rules) (o : Option ℕ) (e : o ≡ rule_at (get_or rules i d) at bs) where
  pub rule_on : form_from (drop i rules) at bs ≡ from o (λ next. form_from (drop (i + 1) rules) next bs)
  rule_on = at_drop_more (λ z. form_from z at bs) rules i d h ∙ ap (λ z. from z (λ next. form_from (drop (i + 1) rules) next bs)) (sym e)

pub rules_all : (rules : List Rule) (bs : List ℕ) (i at : ℕ) → length rules ≤ i → form_from (drop i rules) at bs ≡ eqb at (length bs)
rules_all rules bs i at h = at_drop_all (λ z. form_from z at bs) rules i h

-- what `ok` hides of a copy that was refused, and what it hands on of one that was made
pub refused_for : {X E Q : Type 0} (P : X → Type 0) (r : Result X E) → None ≡ result_ok r → MatchResult r P (λ _. Q) → Q
refused_for P (Ok x) e m = cc
refused_for P (Err d) e m = m

pub made_as : {X E : Type 0} (P : X → Type 0) (Q : E → Type 0) (r : Result X E) (x : X) → Some x ≡ result_ok r → MatchResult r P Q → P x
made_as P Q (Ok y) x e m = let q : y ≡ x = cc in subst P q m
made_as P Q (Err d) x e m = cc
