-- Packets fit their slots, and slots the store. Assumes nothing.
use Rattle.std.proofs.Common.{◌≡◌, ℕ, zero, suc, ◌+◌, ◌*◌, ◌%◌, ◌<◌, ◌≤◌, eqb, length, get_or, replicate, vec_items, refl, arith}
use Rattle.std.proofs.lemmas.Bool.{cond_both}
use Rattle.packet.specs.Sizes.{first_capacity_of}
use Rattle.packet.proofs.Room.{size_first, size_first_some, size_some}
use Rattle.held.specs.Slots.{sizes_of}
use Rattle.held.proofs.Packets.{slot_within}
use Rattle.held.proofs.Records.{sizes_long}
use Rattle.writer.specs.declared.state.Writer.{Writer}
use Rattle.writer.specs.declared.terms.Terms.{Terms}
use Rattle.writer.specs.Sizes.{capacity, room_at}

pub room_within : (t : Terms) (n : ℕ) → room_at t n ≤ capacity t
room_within t n =
    cond_both (eqb n 0) (first_capacity_of 4 t.size.chunk t.size.packet t.initial_len) (capacity t) (λ x. x ≤ capacity t)
    (λ e. size_first t.size t.initial_len) (λ e. omega arith)

pub room_some : (t : Terms) (n : ℕ) → 0 < room_at t n
room_some t n =
    cond_both (eqb n 0) (first_capacity_of 4 t.size.chunk t.size.packet t.initial_len) (capacity t) (λ x. 0 < x)
    (λ e. size_first_some t.size t.initial_len) (λ e. size_some t.size)

-- the slot of a packet ends within the store
pub slot_ends : (w : Writer) (n : ℕ) → (n % w.terms.slots) * capacity w.terms + capacity w.terms ≤ w.terms.store_len
slot_ends w n = omega (arith, slot_within (capacity w.terms) w.terms.slots n (omega (arith, w.shape)), w.shape)

pub filling_small : (w : Writer) → w.filling ≤ capacity w.terms
filling_small w = omega (arith, w.fits, room_within w.terms (w.first + w.count))

-- there is a size for each slot
pub sizes_table : (w : Writer) → w.terms.slots ≤ length (sizes_of (vec_items w.held.records))
sizes_table w = omega (arith, sizes_long (vec_items w.held.records), w.held.records.ok.0, w.held.table, w.shape)

-- slots that nothing was put in have no bytes
pub none_in : (n i : ℕ) → ◌≡◌ {A = ℕ} (get_or (replicate n 0) i 0) 0
none_in zero i = refl
none_in (suc n) zero = refl
none_in (suc n) (suc i) = none_in n i
