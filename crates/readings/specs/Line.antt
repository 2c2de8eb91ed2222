-- A line of readings: nineteen numbers, each within its limit and with its mark behind it. Assumes nothing.
use Rattle.std.specs.Prelude.{ℕ, zero, suc, ◌+◌, ◌-◌, ◌*◌, ◌^◌, Bool, cond, List, [], ◌∷◌, ◌++◌, length, drop, replicate, Ok, Err, Result, ◌==◌, nat_le, slice_index}
use Rattle.std.specs.Char.{is_ascii_digit}
use Rattle.wire.specs.Read.{and_then}
use Rattle.readings.specs.declared.number.Mark.{Mark}
use Rattle.readings.specs.declared.number.Mark.TheVariants.{Comma, Semicolon, End}
use Rattle.readings.specs.declared.number.LineFault.{LineFault}
use Rattle.readings.specs.declared.number.LineFault.TheVariants.{DigitExpected, AboveLimit, MarkExpected}
use Rattle.readings.specs.declared.number.LineError.{LineError}
use Rattle.readings.specs.declared.number.Slot.{Slot}
use Rattle.readings.specs.declared.reading.Reading.{Reading}

-- the digits before anything else
abbrev pub digits : List ℕ → List ℕ
digits [] = []
digits (b ∷ bs) = cond (is_ascii_digit b) (b ∷ digits bs) []

-- the number that decimal digits go on to, from the number of those before them
abbrev pub decimal_from : ℕ → List ℕ → ℕ
decimal_from n [] = n
decimal_from n (b ∷ bs) = decimal_from (10 * n + (b - 48)) bs

abbrev pub fault_at : {A : Type 0} → ℕ → LineFault → Result A LineError
fault_at at f = Err (record { column = at + 1; fault = f })

-- the number that those digits at that place write, and the place past them
abbrev pub number_of : List ℕ → ℕ → ℕ → Result (ℕ × ℕ) LineError
number_of ds limit at =
    cond (length ds == 0) (fault_at at DigitExpected)
    (cond (nat_le (decimal_from 0 ds) limit) (Ok (decimal_from 0 ds, at + length ds)) (fault_at at (AboveLimit limit)))

unfoldable pub number_at : ℕ → ℕ → List ℕ → Result (ℕ × ℕ) LineError
number_at limit at line = number_of (digits (drop at line)) limit at

-- whether the mark stands there. No mark is a 0, so a place past the end has neither comma nor semicolon
abbrev pub stands : Mark → ℕ → List ℕ → Bool
stands Comma at line = slice_index line at == 44
stands Semicolon at line = slice_index line at == 59
stands End at line = at == length line

-- the end of the line takes no place
abbrev pub width : Mark → ℕ
width Comma = 1
width Semicolon = 1
width End = 0

abbrev pub mark_at : Mark → ℕ → List ℕ → Result ℕ LineError
mark_at m at line = cond (stands m at line) (Ok (at + width m)) (fault_at at (MarkExpected m))

unfoldable pub slot_at : Slot → ℕ → List ℕ → Result (ℕ × ℕ) LineError
slot_at s at line = and_then (number_at s.limit at line) (λ x. and_then (mark_at s.then x.1 line) (λ next. Ok (x.0, next)))

-- numbers one after another
abbrev pub slots_at : List Slot → ℕ → List ℕ → Result (List ℕ) LineError
slots_at [] at line = Ok []
slots_at (s ∷ ss) at line = and_then (slot_at s at line) (λ x. and_then (slots_at ss x.1 line) (λ ns. Ok (x.0 ∷ ns)))

abbrev pub slot : ℕ → Mark → Slot
slot limit m = record { limit = limit; then = m }

-- the time, four weights, six burners and eight crown temperatures
abbrev pub table : List Slot
table =
    slot (2 ^ 64 - 1) Semicolon ∷ []
    ++ replicate 3 (slot (2 ^ 32 - 1) Comma) ++ slot (2 ^ 32 - 1) Semicolon ∷ []
    ++ replicate 5 (slot 1000 Comma) ++ slot 1000 Semicolon ∷ []
    ++ replicate 7 (slot 20000 Comma) ++ slot 20000 End ∷ []

-- the k numbers from place i on
abbrev pub span : ℕ → ℕ → List ℕ → List ℕ
span i zero ns = []
span i (suc k) ns = slice_index ns i ∷ span (i + 1) k ns

abbrev pub reading_from : List ℕ → Reading
reading_from ns = record { time = slice_index ns 0; weights = span 1 4 ns; burners = span 5 6 ns; crowns = span 11 8 ns }

-- a line is the numbers of the table
unfoldable pub parsed : List ℕ → Result Reading LineError
parsed line = and_then (slots_at table 0 line) (λ ns. Ok (reading_from ns))
