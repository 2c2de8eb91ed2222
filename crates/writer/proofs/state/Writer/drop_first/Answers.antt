use Rattle.std.proofs.Common.{◌≡◌, ℕ, ◌+◌, ◌-◌, ◌≤◌, vec_items, subst, arith}
use Rattle.held.specs.Slots.{sizes_of}
use Rattle.held.proofs.Packets.{total_first}
use Rattle.writer.specs.Sizes.{room_at}
use Rattle.writer.proofs.state.Writer.drop_first.Goals as goal

pub overflow_sub-self-2 : goal.overflow_sub-self-2
overflow_sub-self-2 c =
    let w = c.args.self.now in
    omega (arith, c.len_at-len.ensures, w.sums, total_first w.terms.slots (sizes_of (vec_items w.held.records)) w.count w.first c.requires)

pub invariant_of-self : goal.invariant_of-self
invariant_of-self c =
    let w = c.args.self.now in
    let t = total_first w.terms.slots (sizes_of (vec_items w.held.records)) w.count w.first c.requires in
    let next : w.first + w.count ≡ w.first + 1 + (w.count - 1) = omega (arith, c.requires) in record {
      shape = w.shape;
      room = omega (arith, w.room);
      fits = subst (λ (n : ℕ). w.filling ≤ room_at w.terms n) next w.fits;
      small = w.small;
      sums = omega (arith, c.len_at-len.ensures, w.sums, t);
      numbers = omega (arith, w.numbers, c.requires);
      ends = omega (arith, w.ends);
      limit = w.limit;
      done = w.done;
      tallied = w.tallied;
      few = w.few;
      widths = w.widths;
    }
