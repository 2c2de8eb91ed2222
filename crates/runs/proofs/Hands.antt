-- A packet is held and its frame put, or lost: bytes and packets stay in order. Assumes nothing.
use Rattle.std.proofs.Common.{◌≡◌, ℕ, ◌+◌, ◌-◌, ◌≤◌, Bool, true, false, cond, List, [], ◌∷◌, ◌++◌, length, refl, sym, ap, ◌∙◌, arith}
use Rattle.packet.specs.Frame.{Packet, octets_of}
use Rattle.held.proofs.Packets.{slot_long}
use Rattle.held.proofs.Apart.{handed_packets, handed_whole}
use Rattle.chain.specs.declared.link.Link as Link
use Rattle.chain.specs.Meaning.{Seen, Puts}
use Rattle.writer.specs.declared.cause.Cause.TheVariants.{Put}
use Rattle.writer.specs.declared.state.kind.State.{State}
use Rattle.writer.specs.declared.state.kind.State.TheVariants.{Streaming, Broken}
use Rattle.writer.specs.Sizes.{capacity}
use Rattle.writer.specs.States.{ended, last_ones, listens}
use Rattle.writer.specs.Views.{View, chunk_of, next_of, waiting_of, with_state, with_held, held_in, filling_in, outgoing, broken_by}
use Rattle.writer.proofs.Rooms.{room_within}
use Rattle.writer.specs.Calls.{Streamer}
use Rattle.writer.specs.Writing.{handed_over, PutsOutgoing}
use Rattle.runs.specs.History.{History}
use Rattle.runs.proofs.Invariant.{Fit, Holds, Flows, Sofar, Confirmed, kept_long}
use Rattle.runs.proofs.Means.{MeansChain}
use Rattle.runs.proofs.Taken.{carried, pending_more}
use Rattle.runs.proofs.Keeps.{Keeps}
use Rattle.runs.proofs.States.{so_far, is_open, flowing, flows_as, confirmed_as}

module _ (h : History) (v : View) (store : List ℕ) (x : Seen) (f : Fit v (length store)) (holds : Holds h v store x) where
  -- the packet being filled is held, whatever the pipeline made of its frame
  pub holds_held : (s : State) (y : Seen) → y.kept ≡ x.kept → Flows s y.pending (held_in (with_state s (with_held v)) store (length x.kept)) → Confirmed s v.first (v.count + 1) h.confirmed
      → Holds h (with_state s (with_held v)) store y
  holds_held s y kept flows confirmed =
      let whole = handed_whole (chunk_of v) (capacity v.terms) v.terms.slots v.sizes store v.count v.first v.filling f.room f.table (ended v.state) (ended s) x.kept (h.initial ++ h.accepted) holds.whole in
      record {
        store_len = holds.store_len;
        whole = rw kept whole;
        len = holds.len;
        flows = rw kept flows;
        told = holds.told;
        confirmed = confirmed;
      }

  module _ (streams : v.state ≡ Streaming) where
    pub sofar : Sofar v.first h.confirmed
    sofar = so_far v.state v.first v.count h.confirmed (ap listens streams) holds.confirmed

    -- where the frame is taken, the packet is pending behind those that were
    pub pending_held : (s : State) (y : Seen) → Puts (octets_of (outgoing (with_state s v) store)) true x y
        → y ≡ record x { pending = held_in (with_state s (with_held v)) store (length x.kept) }
    pending_held s y puts =
        let small : v.filling ≤ capacity v.terms = omega (arith, f.fits, room_within v.terms (next_of v)) in
        let long = slot_long (capacity v.terms) v.terms.slots store (next_of v) v.filling (omega (arith, f.slots)) small f.store in
        let few : last_ones v.state ≡ 0 = ap last_ones streams in
        let q = outgoing (with_state s v) store in
        let c = carried v.terms (v.len - v.filling) (next_of v) (ended s) (filling_in v store) (omega (arith, f.limit)) (omega (arith, f.numbers, f.limit, few)) (omega (arith, long, small)) in
        let is = pending_more q x y c (omega (arith, f.numbers, f.limit, few)) puts in
        let whole : x.pending ≡ held_in v store (length x.kept) = flowing v.state x.pending _ (ap listens streams) holds.flows in
        let before : x.pending ≡ held_in (with_state Streaming v) store (length x.kept) = whole ∙ ap (λ (s : State). held_in (with_state s v) store (length x.kept)) streams in
        let offset : v.len - v.filling ≡ length x.kept + waiting_of v = omega (arith, kept_long h v store x f holds) in
        let held = handed_packets (chunk_of v) (capacity v.terms) v.terms.slots v.sizes store v.count v.first v.filling f.room f.table (ended s) (length x.kept) in
        let more : x.pending ++ q ∷ [] ≡ held_in (with_state s (with_held v)) store (length x.kept) = rw (before, offset) (sym held) in
        is ∙ ap (λ (l : List Packet). record x { pending = l }) more

    -- the packet is handed over in a state in which the pipeline is whole, and taken or lost
    pub handed_keeps : (s : State) (y : Seen) (sent : Bool) → listens s ≡ true → Puts (octets_of (outgoing (with_state s v) store)) sent x y
        → Keeps h v (cond sent (with_held (with_state s v)) (broken_by (Put (next_of v)) (with_held (with_state s v)))) store y
    handed_keeps s y true whole puts =
        let is = pending_held s y puts in
        record {
          holds = holds_held s y (ap (λ (z : Seen). z.kept) is) (flows_as s y.pending _ (ap (λ (z : Seen). z.pending) is)) (confirmed_as s v.first (v.count + 1) h.confirmed whole sofar);
          stamp = refl;
          terms = refl;
          opens = λ o. is_open v.state (ap listens streams);
        }
    handed_keeps s y false whole puts = record {
      holds = holds_held (Broken (Put (next_of v)) (ended s)) y (ap (λ (z : Seen). z.kept) puts) tt sofar;
      stamp = refl;
      terms = refl;
      opens = λ o. is_open v.state (ap listens streams);
    }

module _ {C : Type 0} (acts : Link.Ghosts C) (seen : C → Seen) (means : MeansChain acts seen) where
  -- a packet of a block that has not ended
  pub hands_keep : (h : History) (p : Streamer C) (c : C) (sent : Bool) → p.view.state ≡ Streaming → Fit p.view (length p.store) → Holds h p.view p.store (seen p.link)
      → PutsOutgoing acts p sent c → Keeps h p.view (handed_over p sent c).view p.store (seen c)
  hands_keep h p c sent streams f holds act =
      handed_keeps h p.view p.store (seen p.link) f holds streams p.view.state (seen c) sent (ap listens streams) (means.putting p.link c _ sent act)
