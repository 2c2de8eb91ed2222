-- The octets of a packed part, as the loop takes them. Assumes nothing.
use Rattle.std.proofs.Common.{◌≡◌, ℕ, ◌+◌, ◌*◌, ◌≤◌, List, drop, refl, arith}
use Rattle.ack.specs.Packed.{numbers_from, numbers_of, walked}

-- the first i octets of xs have led from `start` to s, and the rest leads on to the answer
pub record Sofar {S : Type 0} (push : S → ℕ → S) (size : S → ℕ) (xs : List ℕ) (start : S) (i low turn : ℕ) (s : S) : Type 0 where
  pub leads : walked push s (numbers_from (7 * turn) low (drop i xs)) ≡ walked push start (numbers_of xs)
  pub few : size s ≤ size start + i

pub begin : {S : Type 0} {push : S → ℕ → S} {size : S → ℕ} {xs : List ℕ} {start : S} → Sofar push size xs start 0 0 0 start
unfolding numbers_of
begin = record { leads = refl; few = omega arith }
