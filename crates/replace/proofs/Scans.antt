-- The searches in a list of datanodes. Assumes nothing.
use Rattle.std.proofs.Common.{◌≡◌, ℕ, ◌+◌, Bool, true, false, cond, not, List, [], ◌∷◌, Some, Option, refl, ◌∙◌}
use Rattle.std.specs.List.{position, position_from}
use Rattle.std.proofs.lemmas.Iterator.Adapters.{position_from-zero}
use Rattle.proto.specs.declared.datanode.Datanode.{Datanode}
use Rattle.replace.specs.Choice.{any_same, first_new}

first_from : (i : ℕ) (ns os : List Datanode) → position_from (λ n. not (any_same os n)) i ns ≡ first_new i ns os
first_from i [] os = refl
first_from i (n ∷ ns) os = go (any_same os n) (first_from (i + 1) ns os)
  where
    go : (b : Bool) → position_from (λ n. not (any_same os n)) (i + 1) ns ≡ first_new (i + 1) ns os
        → cond (not b) (Some i) (position_from (λ n. not (any_same os n)) (i + 1) ns) ≡ cond b (first_new (i + 1) ns os) (Some i)
    go true e = e
    go false e = refl

pub first_is : (ns os : List Datanode) (r : Option ℕ) → r ≡ position (λ n. not (any_same os n)) ns → r ≡ first_new 0 ns os
first_is ns os r e = e ∙ position_from-zero (λ n. not (any_same os n)) ns ∙ first_from 0 ns os
