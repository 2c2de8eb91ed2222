use Rattle.std.proofs.Common.{ℕ, ◌≤◌, List, get_or, sym, refl, subst, arith}
use Rattle.writer.specs.Sizes.{capacity}
use Rattle.writer.proofs.Rooms.{none_in}
use Rattle.writer.proofs.tables.Tables.into_writer.Goals as goal

pub invariant_of-result : goal.invariant_of-result
invariant_of-result c =
    let t = c.args.terms in
    let f = c.requires.fits in
    let s = c.args.self in record {
      shape = (f.least, f.most, f.store);
      room = omega (arith, f.least);
      fits = omega arith;
      small = (λ i. subst (λ (z : List ℕ). get_or z i 0 ≤ capacity t) (sym s.sizes) (omega (arith, none_in 101 i)));
      sums = refl;
      numbers = omega arith;
      ends = omega arith;
      limit = (f.initial, f.block);
      done = (λ d. refl);
      tallied = c.requires.tallied;
      few = (omega (arith, s.nodes.rows.ok.0, c.requires.few), omega (arith, s.empty));
      widths = (omega (arith, c.ranges.stamp.fits), f.id);
    }
