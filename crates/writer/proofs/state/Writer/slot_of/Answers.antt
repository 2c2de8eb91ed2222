use Rattle.std.proofs.Common.{ℕ, ◌+◌, ◌*◌, ◌%◌, ◌≤◌, sym, ap, subst}
use Rattle.writer.specs.Sizes.{capacity}
use Rattle.writer.proofs.Rooms.{slot_ends}
use Rattle.writer.proofs.state.Writer.slot_of.Goals as goal

pub returns : goal.returns
returns c =
    let w = c.args.self.now in
    let n = c.args.seqno in
    let e = c.capacity.ensures in
    record {
      value = ap (λ (k : ℕ). (n % w.terms.slots) * k) e;
      within = subst (λ (k : ℕ). (n % w.terms.slots) * k + capacity w.terms ≤ w.terms.store_len) (sym e) (slot_ends w n);
    }
