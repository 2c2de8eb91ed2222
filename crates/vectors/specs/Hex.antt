-- Hexadecimal digits, 0 to 9 or a to f, by their ASCII codes. Assumes nothing.
use Rattle.std.specs.Prelude.{ℕ, ◌+◌, ◌-◌, ◌*◌, cond, ◌&&◌, Some, None, Ok, Err, Option, Result, nat_le}
use Rattle.vectors.specs.declared.error.LineError.{LineError}
use Rattle.vectors.specs.declared.error.LineError.TheVariants.{Form}

abbrev pub digit_of : ℕ → Option ℕ
digit_of b = cond (nat_le 48 b && nat_le b 57) (Some (b - 48)) (cond (nat_le 97 b && nat_le b 102) (Some (b - 87)) None)

-- the octet of two digits, the higher first
abbrev pub paired : Option ℕ → Option ℕ → Result ℕ LineError
paired (Some high) (Some low) = Ok (16 * high + low)
paired (Some high) None = Err Form
paired None low = Err Form

abbrev pub octet_of : ℕ → ℕ → Result ℕ LineError
octet_of high low = paired (digit_of high) (digit_of low)
