-- Whether two lists of octets are the same. Assumes nothing.
use Rattle.std.proofs.Common.{◌≡◌, ℕ, Bool, true, false, not, List, Decides, sym, refl, ◌∙◌}
use Rattle.std.specs.Str.{bytes_eq}
use Rattle.std.proofs.lemmas.Slice.Eq.{bytes_eq-Decides}
use Rattle.std.proofs.lemmas.Bool.{both_ways, not-true, not-false}

pub same : (s t : List ℕ) → s ≡ t → true ≡ bytes_eq s t
same s t e = sym ((bytes_eq-Decides s t).1 e)

pub other : (s t : List ℕ) → (s ≡ t → ⊥) → false ≡ bytes_eq s t
other s t n = go (bytes_eq s t) (bytes_eq-Decides s t)
  where
    go : (b : Bool) → Decides b (s ≡ t) → false ≡ b
    go true d = absurd (n (d.0 refl))
    go false d = refl

-- what `!=` answers
pub differ : (s t : List ℕ) (x r : Bool) → Decides x (s ≡ t) → r ≡ not x → r ≡ true → s ≡ t → ⊥
differ s t x r d is e h = both_ways x (not-true x (sym is ∙ e)) (d.1 h)

pub agree : (s t : List ℕ) (x r : Bool) → Decides x (s ≡ t) → r ≡ not x → r ≡ false → s ≡ t
agree s t x r d is e = d.0 (not-false x (sym is ∙ e))
