-- One field of a message, by its tag: the last one counts. Assumes nothing.
use Rattle.std.specs.Prelude.{ℕ, cond, List, [], Ok, Err, Result, ◌==◌}
use Rattle.wire.specs.declared.field.DecodeError.{DecodeError}
use Rattle.wire.specs.Fields.{WireField, varint, fixed64, part, fixed32}
use Rattle.wire.specs.Read.{decoded}

abbrev pub pick_part : ℕ → List ℕ → WireField → List ℕ
pick_part t s (varint tag n) = s
pick_part t s (fixed64 tag n) = s
pick_part t s (part tag bs) = cond (tag == t) bs s
pick_part t s (fixed32 tag n) = s

abbrev pub pick_number : ℕ → ℕ → WireField → ℕ
pick_number t s (varint tag n) = cond (tag == t) n s
pick_number t s (fixed64 tag n) = s
pick_number t s (part tag bs) = s
pick_number t s (fixed32 tag n) = s

-- what was read, or a default where the message has a fault
abbrev pub read_or : {X : Type 0} → X → Result X DecodeError → X
read_or d (Ok x) = x
read_or d (Err e) = d

-- the last value that `pick` finds of that tag, and `none` where there is none, or where the message has a fault
unfoldable pub found : {X : Type 0} → (ℕ → X → WireField → X) → X → ℕ → List ℕ → X
found pick none t bs = read_or none (decoded (λ s f. Ok (pick t s f)) none bs)

abbrev pub part_of : ℕ → List ℕ → List ℕ
part_of = found pick_part []

abbrev pub number_of : ℕ → List ℕ → ℕ
number_of = found pick_number 0
