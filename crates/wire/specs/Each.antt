-- What the fields of a message are, where they are read one after another. Assumes nothing.
use Rattle.std.specs.Prelude.{◌≡◌, ℕ, ◌+◌, ◌<◌, ◌≤◌, List, length, Ok, Err, Result, Option, Some, None}
use Rattle.wire.specs.declared.field.DecodeError.{DecodeError}
use Rattle.wire.specs.declared.field.Field.{Field}
use Rattle.wire.specs.Read.{read_field, in_place, wire, place_of, weight}

-- what stands at `at`, and the place past it: a field, a fault with its place, or nothing at the end
abbrev pub NextField : List ℕ → ℕ → Option (Result Field DecodeError) → ℕ → Type 0
NextField bs at (Some (Ok f)) next =
    (at < length bs) × (read_field at bs ≡ Ok (wire f, next)) × (place_of f ≡ at) × (at < next) × (at + weight (wire f) ≤ next) × (next ≤ length bs)
NextField bs at (Some (Err e)) next = (at < length bs) × (in_place at (read_field at bs) ≡ Err e) × (next ≡ length bs)
NextField bs at None next = (length bs ≤ at) × (next ≡ at)
