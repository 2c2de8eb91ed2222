-- The contents of a writer stay in order as bytes come into the packet being filled, and as that packet is held. Assumes nothing.
use Rattle.std.proofs.Common.{◌≡◌, ℕ, ◌+◌, ◌%◌, ◌<◌, ◌≤◌, [], refl, sym, ap, ◌∙◌, arith}
use Rattle.std.proofs.lemmas.Bool.{true≢false}
use Rattle.std.proofs.lemmas.List.{length-set}
use Rattle.held.proofs.Apart.{handed_total, set_small}
use Rattle.writer.specs.declared.state.kind.State.{State}
use Rattle.writer.specs.declared.state.kind.State.TheVariants.{Streaming}
use Rattle.writer.specs.Sizes.{capacity}
use Rattle.writer.specs.States.{ended, last_ones}
use Rattle.writer.specs.Views.{View, next_of, with_state, with_bytes, with_held}
use Rattle.writer.specs.Writing.{amount}
use Rattle.writer.proofs.Rooms.{room_within}
use Rattle.runs.proofs.Invariant.{Fit}

-- bytes are taken neither past the packet's end nor past the block's
pub fit_poured : (v : View) (long n : ℕ) → Fit v long → v.state ≡ Streaming → Fit (with_bytes (amount v n) v) long
fit_poured v long n f e = record {
  slots = f.slots;
  store = f.store;
  room = f.room;
  fits = omega (arith, f.fits);
  small = f.small;
  table = f.table;
  numbers = omega (arith, f.numbers);
  ends = omega (arith, f.ends);
  limit = omega (arith, f.limit, f.block);
  block = f.block;
  done = λ d. absurd (true≢false (sym d ∙ ap ended e));
}

-- the packet being filled is held, and the writer is in state s then: the packet has a byte, or it is the one that may have none
pub fit_held : (v : View) (s : State) (long : ℕ) → Fit v long → v.count + 1 < v.terms.slots → 1 + last_ones v.state ≤ v.filling + last_ones s → Fit (with_state s (with_held v)) long
fit_held v s long f less some =
    let at = next_of v % v.terms.slots in
    let total = handed_total 0 0 v.terms.slots v.sizes [] v.count v.first v.filling f.room f.table in
    record {
      slots = f.slots;
      store = f.store;
      room = less;
      fits = omega arith;
      small = set_small v.sizes at v.filling (capacity v.terms) f.small (omega (arith, f.fits, room_within v.terms (next_of v)));
      table = omega (arith, f.table, length-set v.sizes at v.filling);
      numbers = omega (arith, f.numbers, some);
      ends = omega (arith, f.ends, total);
      limit = f.limit;
      block = f.block;
      done = λ d. refl;
    }
