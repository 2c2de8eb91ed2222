-- What a write does: bytes come into the packet being filled, and full packets go out. Assumes nothing.
use Rattle.std.specs.Prelude.{◌≡◌, ℕ, ◌+◌, ◌-◌, min, Bool, true, false, if◌then◌else◌, List, length, take, drop, Ok, Err, Result, nat_le, nat_lt}
use borrow.Rule.Slice.PartMut.{put_mid}
use Rattle.packet.specs.Frame.{octets_of, over}
use Rattle.chain.specs.declared.link.Link as Link
use Rattle.writer.specs.declared.cause.Cause.TheVariants.{Put}
use Rattle.writer.specs.declared.refusal.Refusal.{Refusal}
use Rattle.writer.specs.declared.write.Turned.{Turned}
use Rattle.writer.specs.declared.write.Turned.TheVariants.{Stopped, Poured, Handed, Lost}
use Rattle.writer.specs.declared.write.Written.{Written}
use Rattle.writer.specs.Calls.{Streamer}
use Rattle.writer.specs.Sizes.{room_at}
use Rattle.writer.specs.Views.{View, next_of, with_bytes, with_held, broken_by, slot_start, outgoing}

-- how many of n bytes the packet being filled takes: not past its own end, nor past the block's
abbrev pub amount : View → ℕ → ℕ
amount v n = min (min n (room_at v.terms (next_of v) - v.filling)) (v.terms.block_size - v.len)

abbrev pub full : View → Bool
full v = nat_le (room_at v.terms (next_of v)) v.filling

-- what can be done next, where n bytes are left
pub data Turn : Type 0 where
  hand : Turn
  pour : Turn
  stop : Turn

-- a full packet is handed over where fewer than all slots but one are held; one that is not full takes bytes
abbrev pub turn_of : View → ℕ → Turn
turn_of v n =
    if full v then (if nat_lt (v.count + 1) v.terms.slots then hand else stop)
    else (if nat_lt 0 (amount v n) then pour else stop)

module _ {L : Type 0} where
  -- bytes come into the packet's slot, behind those that it has
  abbrev pub poured : Streamer L → List ℕ → Streamer L
  poured p bytes =
      let n = amount p.view (length bytes) in
      record p {
        view = with_bytes n p.view;
        store = put_mid (slot_start p.view + p.view.filling) n p.store (take n bytes);
      }

  -- the packet is held and its frame put, and the link is as that left it
  abbrev pub handed_over : Streamer L → Bool → L → Streamer L
  handed_over p sent c = record p {
    view = if sent then with_held p.view else broken_by (Put (next_of p.view)) (with_held p.view);
    frame = over (outgoing p.view p.store) p.frame;
    link = c;
  }

module _ {L : Type 0} (acts : Link.Ghosts L) where
  -- the frame of the packet being filled is put
  abbrev pub PutsOutgoing : Streamer L → Bool → L → Type 0
  PutsOutgoing p sent c = acts.puts p.link (octets_of (outgoing p.view p.store)) sent c

  -- one turn, by what it came to
  abbrev pub Turns : List ℕ → Streamer L → Turned → Streamer L → Type 0
  Turns bytes p Stopped q = (turn_of p.view (length bytes) ≡ stop) × (q ≡ p)
  Turns bytes p (Poured n) q =
      (turn_of p.view (length bytes) ≡ pour) × (n ≡ amount p.view (length bytes))
      × (q ≡ poured p bytes)
  Turns bytes p Handed q =
      (turn_of p.view (length bytes) ≡ hand) × PutsOutgoing p true q.link
      × (q ≡ handed_over p true q.link)
  Turns bytes p Lost q =
      (turn_of p.view (length bytes) ≡ hand) × PutsOutgoing p false q.link
      × (q ≡ handed_over p false q.link)

  -- turn by turn, until nothing can be done or a put is lost: how many bytes were taken, and whether a put was lost
  pub data Writes : Streamer L → List ℕ → ℕ → Bool → Streamer L → Type 0 where
    stops : {p : Streamer L} {bytes : List ℕ} → turn_of p.view (length bytes) ≡ stop
        → Writes p bytes 0 false p
    pours : {p q : Streamer L} {bytes : List ℕ} {n : ℕ} {lost : Bool}
        → turn_of p.view (length bytes) ≡ pour
        → Writes (poured p bytes) (drop (amount p.view (length bytes)) bytes) n lost q
        → Writes p bytes (amount p.view (length bytes) + n) lost q
    hands : {p q : Streamer L} {bytes : List ℕ} {n : ℕ} {lost : Bool} (c : L)
        → turn_of p.view (length bytes) ≡ hand
        → PutsOutgoing p true c
        → Writes (handed_over p true c) bytes n lost q → Writes p bytes n lost q
    loses : {p : Streamer L} {bytes : List ℕ} (c : L) → turn_of p.view (length bytes) ≡ hand
        → PutsOutgoing p false c → Writes p bytes 0 true (handed_over p false c)

  abbrev pub Wrote : List ℕ → Streamer L → Result Written Refusal → Streamer L → Type 0
  Wrote bytes p (Ok w) q = Writes p bytes w.taken w.put_lost q
  Wrote bytes p (Err e) q = ⊥
