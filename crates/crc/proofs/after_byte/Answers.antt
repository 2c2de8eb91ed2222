use Rattle.std.proofs.Common.{ℕ, ap, ◌∙◌}
use lib.Bits.{bit_xor}
use Rattle.crc.specs.Crc.{steps}
use Rattle.crc.proofs.Slices.{one_read}
use Rattle.crc.proofs.after_byte.Goals as goal

pub returns : goal.returns
returns g c =
    one_read g.P.Polynomial.poly c.table.result.now c.table.ensures (bit_xor c.args.v c.from.result)
    ∙ ap (λ (b : ℕ). steps g.P.Polynomial.poly 8 (bit_xor c.args.v b)) c.from.ensures
