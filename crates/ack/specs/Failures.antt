-- Which nodes of a pipeline failed, by the status codes that they replied. Assumes nothing.
use Rattle.std.specs.Prelude.{ℕ, ◌+◌, ◌%◌, ◌^◌, ◌≤◌, Bool, false, cond, ◌||◌, List, [], ◌∷◌, map, length, ◌==◌, nat_lt}
use Rattle.std.specs.List.{count_by, range_with_len}
use Rattle.ack.specs.declared.tally.FailedNodes.{FailedNodes}

-- an enum is the low 32 bits of its varint, and the statuses of datatransfer.proto are 0 to 13. Others are left out
abbrev pub known : List ℕ → List ℕ
known [] = []
known (reply ∷ replies) = cond (nat_lt (reply % 2 ^ 32) 14) (reply % 2 ^ 32 ∷ known replies) (known replies)

-- the positions, from `at` on, of the statuses other than SUCCESS, which is 0
abbrev pub failures : ℕ → List ℕ → List ℕ
failures at [] = []
failures at (status ∷ statuses) = cond (status == 0) (failures (at + 1) statuses) (at ∷ failures (at + 1) statuses)

abbrev pub has : List ℕ → ℕ → Bool
has [] position = false
has (x ∷ xs) position = x == position || has xs position

-- the last of some positions, or the one that is given where there are none
abbrev pub last_of : ℕ → List ℕ → ℕ
last_of position [] = position
last_of position (x ∷ xs) = last_of x xs

-- positions that rise: of each below 8 whether it is one of them, how many there are, and the highest
abbrev pub nodes_at : List ℕ → FailedNodes
nodes_at xs = record { positions = map (has xs) (range_with_len 0 8); count = length xs; highest = last_of 0 xs }

unfoldable pub failed_nodes : List ℕ → FailedNodes
failed_nodes replies = nodes_at (failures 0 (known replies))

-- no more positions are marked than are counted
abbrev pub IsTallied : FailedNodes → Type 0
IsTallied f = count_by (λ b. b) f.positions ≤ f.count
