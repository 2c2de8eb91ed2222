-- The numbers of a packed part: varints, one after another. Assumes nothing.
use Rattle.std.specs.Prelude.{ℕ, ◌+◌, ◌-◌, ◌*◌, ◌^◌, cond, List, [], ◌∷◌, Ok, Err, fold, Result, ◌==◌, nat_lt}
use Rattle.wire.specs.declared.field.Fault.{Fault}
use Rattle.wire.specs.declared.field.Fault.TheVariants as fault
use Rattle.wire.specs.Read.{and_then}

-- the rest of a part, where the octets of a varint that has begun give `low` and weigh below 2 ^ k.
-- A varint has at most ten octets and is below 2 ^ 64, and the part does not end inside one
abbrev pub numbers_from : ℕ → ℕ → List ℕ → Result (List ℕ) Fault
numbers_from k low [] = cond (k == 0) (Ok []) (Err fault.End)
numbers_from k low (b ∷ bs) =
    cond (nat_lt b 128)
    (cond (nat_lt (low + b * 2 ^ k) (2 ^ 64)) (and_then (numbers_from 0 0 bs) (λ ns. Ok ((low + b * 2 ^ k) ∷ ns))) (Err fault.Varint))
    (cond (nat_lt k 63) (numbers_from (k + 7) (low + (b - 128) * 2 ^ k) bs) (Err fault.Varint))

unfoldable pub numbers_of : List ℕ → Result (List ℕ) Fault
numbers_of bs = numbers_from 0 0 bs

-- what the numbers make of s, one by one
abbrev pub walked : {S : Type 0} → (S → ℕ → S) → S → Result (List ℕ) Fault → Result S Fault
walked push s r = and_then r (λ ns. Ok (fold push s ns))
