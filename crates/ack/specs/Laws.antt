-- What holds of every answer. Assumes nothing.
use Rattle.std.specs.Prelude.{◌≡◌, ℕ, ◌≤◌, true, not, List, ◌∷◌, ◌++◌, drop, Ok, ◌==◌, ◌≢◌, slice_index}
use Rattle.wire.specs.Read.{and_then, varint_at}
use Rattle.ack.specs.Packed.{numbers_of}
use Rattle.ack.specs.Failures.{known, failures, has, failed_nodes}
use Rattle.ack.specs.Acks.{AckFields, joined, replies}

-- the numbers of a packed part: its first varint, as a field's own would be read, then those of the rest
abbrev pub PackedVarints : Type 0
PackedVarints = (b : ℕ) (bs : List ℕ) → numbers_of (b ∷ bs) ≡ and_then (varint_at 0 (b ∷ bs)) (λ x. and_then (numbers_of (drop x.1 (b ∷ bs))) (λ ns. Ok (x.0 ∷ ns)))

-- it is the same how replies are spread over parts and fields of their own
abbrev pub RepliesJoin : Type 0
RepliesJoin = (a : AckFields) (ms ns : List ℕ) → joined (joined a (replies ms)) (replies ns) ≡ joined a (replies (ms ++ ns))

-- a position failed where the known status at it is not SUCCESS
abbrev pub FailedPositions : Type 0
FailedPositions = (statuses : List ℕ) (position : ℕ) → has (failures 0 statuses) position ≡ not (slice_index statuses position == 0)

-- no failed position is above the highest, and that one failed where any did
abbrev pub HighestPosition : Type 0
HighestPosition = (codes : List ℕ)
    → ((position : ℕ) → has (failures 0 (known codes)) position ≡ true → position ≤ (failed_nodes codes).highest)
    × (((failed_nodes codes).count ≢ 0) → has (failures 0 (known codes)) (failed_nodes codes).highest ≡ true)

-- where none failed, every known status is SUCCESS
abbrev pub Passing : Type 0
Passing = (codes : List ℕ) → (failed_nodes codes).count ≡ 0 → (position : ℕ) → slice_index (known codes) position ≡ 0
