-- A packet's frame that was taken, and what the far end has pending then. Assumes nothing.
use Rattle.std.proofs.Common.{◌≡◌, ℕ, ◌-◌, ◌^◌, ◌<◌, ◌≤◌, Bool, true, eqb, List, [], ◌∷◌, ◌++◌, length, replicate, refl, ap, ◌∙◌, arith}
use Rattle.std.proofs.lemmas.Bool.{cond-true, cond-false, eq-eqb, ne_eqb, ltb-true, and_parts}
use Rattle.std.proofs.lemmas.List.{length-replicate}
use Rattle.packet.specs.Frame.{Packet, octets_of, whole_in, fits_in}
use Rattle.packet.specs.Reading.{Carried}
use Rattle.packet.proofs.Reading.{unique}
use Rattle.packet.proofs.Room.{size_fits}
use Rattle.held.specs.Slots.{packet_of}
use Rattle.chain.specs.Meaning.{Seen, Puts, with_packet}
use Rattle.writer.specs.declared.terms.Terms.{Terms}
use Rattle.writer.specs.Sizes.{capacity, frame_room}

countable_of : (q : Packet) (buffer : List ℕ) → fits_in q buffer ≡ true → whole_in q < 2 ^ 31
unfolding fits_in
countable_of q buffer e = ltb-true _ _ (and_parts _ _ e).0

pub carried : (t : Terms) (offset seqno : ℕ) (last : Bool) (bytes : List ℕ) → offset < 2 ^ 64 → seqno < 2 ^ 64 → length bytes ≤ capacity t
    → Carried (packet_of t.size.chunk offset seqno last bytes)
carried t offset seqno last bytes o n fits =
    let q = packet_of t.size.chunk offset seqno last bytes in
    let buffer = replicate (frame_room t) 0 in
    record {
      offset = o;
      seqno = n;
      whole = countable_of q buffer (size_fits t.size q buffer refl fits (omega (arith, length-replicate {A = ℕ} (frame_room t) 0)));
    }

-- what is taken is that packet, since no other has its frame
pub taken : (q : Packet) (s t : Seen) → Carried q → Puts (octets_of q) true s t → t ≡ with_packet q s
taken q s t c d = d.is ∙ ap (λ (p : Packet). with_packet p s) (unique d.packet q d.carried c d.reads)

pub pending_more : (q : Packet) (s t : Seen) → Carried q → q.seqno < 2 ^ 64 - 1 → Puts (octets_of q) true s t
    → t ≡ record s { pending = s.pending ++ q ∷ [] }
pending_more q s t c less d = taken q s t c d ∙ cond-false (eqb q.seqno (2 ^ 64 - 1)) _ _ (ne_eqb _ _ (λ e. omega (arith, e)))

-- a heartbeat
pub pending_same : (q : Packet) (s t : Seen) → Carried q → ◌≡◌ {A = ℕ} q.seqno (2 ^ 64 - 1) → Puts (octets_of q) true s t → t ≡ s
pending_same q s t c e d = taken q s t c d ∙ cond-true (eqb q.seqno (2 ^ 64 - 1)) _ _ (eq-eqb _ _ e)
