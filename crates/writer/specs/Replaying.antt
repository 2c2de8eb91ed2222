-- Held packets put again, in their order, until one is lost. Assumes nothing.
use Rattle.std.specs.Prelude.{ℕ, ◌+◌, true, false, List, [], ◌∷◌, Some, None, Option}
use Rattle.packet.specs.Frame.{Packet, octets_of, over}
use Rattle.chain.specs.declared.link.Link as Link

module _ {L : Type 0} (acts : Link.Ghosts L) where
  -- the packets, the frame buffer and the link before; how many were put, which one was lost; the frame buffer and
  -- the link after
  pub data Replays : List Packet → List ℕ → L → ℕ → Option ℕ → List ℕ → L → Type 0 where
    all : {frame : List ℕ} {a : L} → Replays [] frame a 0 None frame a
    again : {p : Packet} {ps : List Packet} {frame frame' : List ℕ} {a b : L} {n : ℕ}
        {lost : Option ℕ} (m : L)
        → acts.puts a (octets_of p) true m → Replays ps (over p frame) m n lost frame' b
        → Replays (p ∷ ps) frame a (n + 1) lost frame' b
    ends : {p : Packet} {ps : List Packet} {frame : List ℕ} {a b : L}
        → acts.puts a (octets_of p) false b
        → Replays (p ∷ ps) frame a 0 (Some p.seqno) (over p frame) b
