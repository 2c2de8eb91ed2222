-- What a call keeps: the invariant, and what was settled at the opening. Assumes nothing.
use Rattle.std.proofs.Common.{◌≡◌, ℕ, List, ◌∙◌}
use Rattle.chain.specs.Meaning.{Seen}
use Rattle.writer.specs.Views.{View}
use Rattle.runs.specs.History.{History}
use Rattle.runs.proofs.Invariant.{Holds, IsOpen}

pub record Keeps (h : History) (v : View) (w : View) (store : List ℕ) (x : Seen) : Type 0 where
  pub holds : Holds h w store x
  pub stamp : w.stamp ≡ v.stamp
  pub terms : w.terms ≡ v.terms
  pub opens : IsOpen w.state → IsOpen v.state

-- one step after another
pub keeps_then : {g h : History} {u v w : View} {s t : List ℕ} {x y : Seen} → Keeps g u v s x → Keeps h v w t y → Keeps h u w t y
keeps_then a b = record { holds = b.holds; stamp = b.stamp ∙ a.stamp; terms = b.terms ∙ a.terms; opens = λ o. a.opens (b.opens o) }
