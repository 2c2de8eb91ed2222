-- A replay, packet by packet. Assumes nothing.
use Rattle.std.proofs.Common.{◌≡◌, ℕ, ◌+◌, ◌-◌, ◌<◌, ◌≤◌, Bool, true, false, List, ◌∷◌, Some, None, Option, sym, ap, ◌∙◌, subst, add-zero, arith}
use Rattle.packet.specs.Frame.{Packet, octets_of, over}
use Rattle.chain.specs.declared.link.Link as Link
use Rattle.held.specs.Slots.{size_at, slot_of, packet_of, last_at, packets}
use Rattle.held.proofs.Packets.{packets_first, packets_none}
use Rattle.writer.specs.Replaying.{Replays, all, again, ends}

-- where i packets were put, what is made of the rest is made of the whole
abbrev pub Onward : {L : Type 0} → Link.Ghosts L → List Packet → List ℕ → L → ℕ → List Packet → List ℕ → L → Type 0
Onward {L} acts ps frame a i qs frame' b = (n : ℕ) (lost : Option ℕ) (f : List ℕ) (c : L) → Replays acts qs frame' b n lost f c → Replays acts ps frame a (i + n) lost f c

module _ {L : Type 0} (acts : Link.Ghosts L) (ps : List Packet) (frame : List ℕ) (a : L) where
  module _ (u k s : ℕ) (sizes store : List ℕ) (finished : Bool) (i count n o : ℕ) (frame' : List ℕ) (b : L)
      (go : Onward acts ps frame a i (packets u k s sizes store finished (count - i) (n + i) o) frame' b) (less : i < count) where
    first : packets u k s sizes store finished (count - i) (n + i) o ≡ packet_of u o (n + i) (last_at finished (count - i - 1)) (slot_of k s store (n + i) (size_at s sizes (n + i))) ∷ packets u k s sizes store finished (count - (i + 1)) (n + (i + 1)) (o + size_at s sizes (n + i))
    first =
        let c : count - i - 1 ≡ count - (i + 1) = omega arith in
        let m : n + i + 1 ≡ n + (i + 1) = omega arith in
        packets_first u k s sizes store finished (count - i) (n + i) o (omega arith)
        ∙ ap (λ (j : ℕ). packet_of u o (n + i) (last_at finished (count - i - 1)) (slot_of k s store (n + i) (size_at s sizes (n + i))) ∷ packets u k s sizes store finished j (n + i + 1) (o + size_at s sizes (n + i))) c
        ∙ ap (λ (j : ℕ). packet_of u o (n + i) (last_at finished (count - i - 1)) (slot_of k s store (n + i) (size_at s sizes (n + i))) ∷ packets u k s sizes store finished (count - (i + 1)) j (o + size_at s sizes (n + i))) m

    pub one_more : (b' : L) → acts.puts b (octets_of (packet_of u o (n + i) (last_at finished (count - i - 1)) (slot_of k s store (n + i) (size_at s sizes (n + i))))) true b'
        → Onward acts ps frame a (i + 1) (packets u k s sizes store finished (count - (i + 1)) (n + (i + 1)) (o + size_at s sizes (n + i))) (over (packet_of u o (n + i) (last_at finished (count - i - 1)) (slot_of k s store (n + i) (size_at s sizes (n + i)))) frame') b'
    one_more b' act j lost f c r =
        let w = go (j + 1) lost f c (subst (λ (qs : List Packet). Replays acts qs frame' b (j + 1) lost f c) (sym first) (again b' act r)) in
        let sum : i + (j + 1) ≡ i + 1 + j = omega arith in
        subst (λ (m : ℕ). Replays acts ps frame a m lost f c) sum w

    pub one_lost : (b' : L) → acts.puts b (octets_of (packet_of u o (n + i) (last_at finished (count - i - 1)) (slot_of k s store (n + i) (size_at s sizes (n + i))))) false b'
        → Replays acts ps frame a i (Some (n + i)) (over (packet_of u o (n + i) (last_at finished (count - i - 1)) (slot_of k s store (n + i) (size_at s sizes (n + i)))) frame') b'
    one_lost b' act =
        let p = packet_of u o (n + i) (last_at finished (count - i - 1)) (slot_of k s store (n + i) (size_at s sizes (n + i))) in
        let w = go 0 (Some (n + i)) (over p frame') b' (subst (λ (qs : List Packet). Replays acts qs frame' b 0 (Some (n + i)) (over p frame') b') (sym first) (ends act)) in
        subst (λ (m : ℕ). Replays acts ps frame a m (Some (n + i)) (over p frame') b') (add-zero i) w

  pub none_left : (u k s : ℕ) (sizes store : List ℕ) (finished : Bool) (i count n o : ℕ) (frame' : List ℕ) (b : L)
      → Onward acts ps frame a i (packets u k s sizes store finished (count - i) (n + i) o) frame' b → count ≤ i → Replays acts ps frame a i None frame' b
  none_left u k s sizes store finished i count n o frame' b go done =
      let e = packets_none u k s sizes store finished (count - i) (n + i) o (omega arith) in
      let w = go 0 None frame' b (subst (λ (qs : List Packet). Replays acts qs frame' b 0 None frame' b) (sym e) all) in
      subst (λ (m : ℕ). Replays acts ps frame a m None frame' b) (add-zero i) w
