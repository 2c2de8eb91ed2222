-- A replay puts all held packets again, or loses one. Assumes nothing.
use Rattle.std.proofs.Common.{◌≡◌, ℕ, zero, suc, ◌+◌, ◌-◌, ◌*◌, ◌%◌, ◌^◌, ◌<◌, ◌≤◌, Bool, true, false, List, [], ◌∷◌, ◌++◌, length, get_or, None, Option, sym, refl, ap, ◌∙◌, append_assoc, arith}
use Rattle.std.proofs.lemmas.List.{append-nil}
use Rattle.std.proofs.lemmas.Option.{none-some}
use Rattle.packet.specs.Frame.{Packet, octets_of}
use Rattle.packet.specs.Reading.{Carried}
use Rattle.held.specs.Slots.{total, size_at, slot_of, last_at, packets}
use Rattle.held.proofs.Packets.{slot_long}
use Rattle.chain.specs.declared.link.Link as Link
use Rattle.chain.specs.Meaning.{Seen}
use Rattle.writer.specs.declared.state.kind.State.{State}
use Rattle.writer.specs.declared.state.kind.State.TheVariants.{Streaming, Finishing, Broken, Complete, Closed}
use Rattle.writer.specs.declared.terms.Terms.{Terms}
use Rattle.writer.specs.Replaying.{Replays, all, again, ends}
use Rattle.writer.specs.Sizes.{capacity}
use Rattle.writer.specs.States.{ended, last_ones}
use Rattle.writer.specs.Views.{View, least_of, held_in}
use Rattle.runs.proofs.Invariant.{Fit}
use Rattle.runs.proofs.Means.{MeansChain}
use Rattle.runs.proofs.Taken.{carried, pending_more}

-- each has room in a frame, and none is a heartbeat
abbrev pub Numbered : List Packet → Type 0
Numbered [] = Unit {0}
Numbered (p ∷ ps) = Carried p × (p.seqno < 2 ^ 64 - 1) × Numbered ps

-- packets of a store's slots, where what they end with is in bounds
pub slots_numbered : (t : Terms) (sizes store : List ℕ) (finished : Bool) → 0 < t.slots → ((i : ℕ) → get_or sizes i 0 ≤ capacity t) → t.slots * capacity t ≤ length store
    → (c n o : ℕ) → o + total t.slots sizes c n < 2 ^ 63 → n + c ≤ 2 ^ 63 → Numbered (packets t.size.chunk (capacity t) t.slots sizes store finished c n o)
slots_numbered t sizes store finished some small fits zero n o bytes numbers = tt
slots_numbered t sizes store finished some small fits (suc c) n o bytes numbers =
    let m = size_at t.slots sizes n in
    let long = slot_long (capacity t) t.slots store n m some (small (n % t.slots)) fits in
    let less : m ≤ capacity t = small (n % t.slots) in (
      carried t o n (last_at finished c) (slot_of (capacity t) t.slots store n m) (omega (arith, bytes)) (omega (arith, numbers)) (omega (arith, long, less)),
      omega (arith, numbers),
      slots_numbered t sizes store finished some small fits c (suc n) (o + m) (omega (arith, bytes)) (omega (arith, numbers)),
    )

last_one : (s : State) → last_ones s ≤ 1
last_one Streaming = omega arith
last_one Finishing = omega arith
last_one (Broken cause true) = omega arith
last_one (Broken cause false) = omega arith
last_one Complete = omega arith
last_one Closed = omega arith

pub held_numbered : (v : View) (store : List ℕ) (o : ℕ) → Fit v (length store) → o ≡ least_of v → Numbered (held_in v store o)
held_numbered v store o f e =
    slots_numbered v.terms v.sizes store (ended v.state) (omega (arith, f.slots)) f.small f.store v.count v.first o
    (omega (arith, e, f.ends, f.limit)) (omega (arith, f.numbers, f.limit, last_one v.state))

-- what the far end has after a replay: it keeps what it kept, and without a loss all packets are pending behind those that were
pub record PutAgain (ps : List Packet) (lost : Option ℕ) (x y : Seen) : Type 0 where
  pub kept : y.kept ≡ x.kept
  pub pending : lost ≡ None → y.pending ≡ x.pending ++ ps

module _ {C : Type 0} (acts : Link.Ghosts C) (seen : C → Seen) (means : MeansChain acts seen) where
  pub replayed_all : {ps : List Packet} {frame frame' : List ℕ} {a b : C} {n : ℕ} {lost : Option ℕ} → Numbered ps → Replays acts ps frame a n lost frame' b → PutAgain ps lost (seen a) (seen b)
  replayed_all {a = a} fit all = record { kept = refl; pending = λ e. sym (append-nil (seen a).pending) }
  replayed_all {ps = p ∷ ps} {a = a} {b = b} fit (again m act rest) =
      let d = pending_more p (seen a) (seen m) fit.0 fit.1 (means.putting a m (octets_of p) true act) in
      let r = replayed_all fit.2 rest in
      record {
        kept = r.kept ∙ ap (λ (x : Seen). x.kept) d;
        pending = λ e. r.pending e ∙ ap (λ (x : Seen). x.pending ++ ps) d ∙ append_assoc (seen a).pending (p ∷ []) ps;
      }
  replayed_all {a = a} {b = b} fit (ends act) =
      record { kept = ap (λ (x : Seen). x.kept) (means.putting _ _ _ false act); pending = λ e. absurd (none-some _ (sym e)) }

  pub replayed : (v : View) (store : List ℕ) (o : ℕ) → Fit v (length store) → o ≡ least_of v
      → (frame : List ℕ) (a : C) (n : ℕ) (lost : Option ℕ) (frame' : List ℕ) (b : C) → Replays acts (held_in v store o) frame a n lost frame' b → PutAgain (held_in v store o) lost (seen a) (seen b)
  replayed v store o f e frame a n lost frame' b d = replayed_all (held_numbered v store o f e) d
