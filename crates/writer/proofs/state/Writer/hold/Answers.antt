use Rattle.std.proofs.Common.{◌≡◌, ℕ, ◌+◌, ◌%◌, ◌≤◌, List, get_or, vec_items, sym, refl, ap, ◌∙◌, subst, arith}
use Rattle.held.specs.Slots.{sizes_of, total}
use Rattle.held.proofs.Apart.{handed_total, set_small}
use Rattle.writer.specs.Sizes.{capacity}
use Rattle.writer.proofs.Rooms.{filling_small, sizes_table}
use Rattle.writer.proofs.state.Writer.hold.Goals as goal

pub invariant_of-self : goal.invariant_of-self
invariant_of-self c =
    let w = c.args.self.now in
    let sizes = sizes_of (vec_items w.held.records) in
    let s = w.terms.slots in
    let n = w.first + w.count in
    let e = c.note.ensures in
    let t : w.waiting + w.filling ≡ total s (sizes_of (vec_items c.note.new.self.records)) (w.count + 1) w.first =
    ap (λ (k : ℕ). k + w.filling) w.sums
    ∙ sym (handed_total 0 0 s sizes sizes w.count w.first w.filling w.room (sizes_table w))
    ∙ ap (λ (z : List ℕ). total s z (w.count + 1) w.first) (sym e) in record {
      shape = w.shape;
      room = c.requires.count_bound;
      fits = omega arith;
      small = (λ i. subst (λ (z : List ℕ). get_or z i 0 ≤ capacity w.terms) (sym e) (set_small sizes (n % s) w.filling (capacity w.terms) w.small (filling_small w) i));
      sums = t;
      numbers = omega (arith, c.requires.initial_len_bound);
      ends = omega (arith, w.ends);
      limit = w.limit;
      done = (λ d. refl);
      tallied = w.tallied;
      few = w.few;
      widths = w.widths;
    }
