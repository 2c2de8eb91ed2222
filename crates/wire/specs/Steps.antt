-- One octet of a varint, of which `turn` octets have given `low`. Assumes nothing.
use Rattle.std.specs.Prelude.{ℕ, ◌+◌, ◌-◌, ◌*◌, ◌^◌, ◌<◌, if◌then◌else◌, Ok, Err, Result, Option, Some, None, nat_lt}
use Rattle.wire.specs.declared.field.Fault.{Fault}
use Rattle.wire.specs.declared.field.Fault.TheVariants as fault

-- another octet follows: `turn` of them have given `low`; or the varint is whole
pub data VarintStep : Type 0 where
  More : ℕ → ℕ → VarintStep
  Whole : ℕ → VarintStep

abbrev pub step_of : ℕ → ℕ → ℕ → Result VarintStep Fault
step_of low turn b =
    if nat_lt b 128
    then (if nat_lt (low + b * 2 ^ (7 * turn)) (2 ^ 64) then Ok (Whole (low + b * 2 ^ (7 * turn))) else Err fault.Varint)
    else (if nat_lt (7 * turn) 63 then Ok (More (low + (b - 128) * 2 ^ (7 * turn)) (turn + 1)) else Err fault.Varint)

-- the step that the program's answer tells, where it holds `low` and `turn` from then on
abbrev pub step_told : ℕ → ℕ → Result (Option ℕ) Fault → Result VarintStep Fault
step_told low turn (Ok None) = Ok (More low turn)
step_told low turn (Ok (Some n)) = Ok (Whole n)
step_told low turn (Err e) = Err e

-- a varint that goes on has some octets, and few enough
abbrev pub Sound : VarintStep → Type 0
Sound (More low turn) = (low < 2 ^ (7 * turn)) × (0 < turn) × (turn < 10)
Sound (Whole value) = value < 2 ^ 64
