use Rattle.std.proofs.Common.{ℕ, sym, ap, ◌∙◌}
use lib.Bits.{bit_xor}
use Rattle.crc.specs.Crc.{after, all_ones}
use Rattle.crc.proofs.Linear.{after_append}
use Rattle.crc.proofs.Slices.{unmasked}
use Rattle.crc.proofs.append.Goals as goal

pub returns : goal.returns
returns g c =
    λ bs is.
    ap (λ (x : ℕ). bit_xor x all_ones)
    (c.update.ensures
    ∙ ap (λ (v : ℕ). after g.P.Polynomial.poly v c.args.bytes.now) (unmasked c.args.sum (after g.P.Polynomial.poly all_ones bs) all_ones is)
    ∙ sym (after_append g.P.Polynomial.poly all_ones bs c.args.bytes.now))
