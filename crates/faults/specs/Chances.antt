-- A linear congruential generator of 64 bits, with Knuth's multiplier. Assumes nothing.
use Rattle.std.specs.Prelude.{ℕ, ◌+◌, ◌*◌, ◌/◌, ◌%◌, ◌^◌, Bool, max, ◌==◌}

abbrev pub step : ℕ → ℕ
step x = (x * 6364136223846793005 + 1442695040888963407) % 2 ^ 64

-- the upper half of the next state
abbrev pub drawn : ℕ → ℕ
drawn x = step x / 2 ^ 32

-- what comes once in n times comes now
abbrev pub hits : ℕ → ℕ → Bool
hits n x = drawn x % max n 1 == 0
