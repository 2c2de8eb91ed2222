-- A heartbeat, put where thirty seconds have passed. Assumes nothing.
use Rattle.std.specs.Prelude.{◌≡◌, ℕ, ◌+◌, ◌-◌, ◌^◌, Bool, true, false, if◌then◌else◌, [], Ok, Result, nat_le}
use Rattle.packet.specs.Frame.{Packet, octets_of, over}
use Rattle.chain.specs.declared.link.Link as Link
use Rattle.held.specs.Slots.{packet_of}
use Rattle.writer.specs.declared.beat.Beat.{Beat}
use Rattle.writer.specs.declared.beat.Beat.TheVariants as beat
use Rattle.writer.specs.declared.cause.Cause.TheVariants.{Put}
use Rattle.writer.specs.declared.refusal.Refusal.{Refusal}
use Rattle.writer.specs.Calls.{Streamer}
use Rattle.writer.specs.Views.{View, chunk_of, beaten_at, broken_by}

-- number -1, offset 0, no data
abbrev pub heartbeat : View → Packet
heartbeat v = packet_of (chunk_of v) 0 (2 ^ 64 - 1) false []

-- thirty seconds or more since the last set up or heartbeat; a clock that went back is not past it
abbrev pub is_due : View → ℕ → Bool
is_due v now = nat_le (v.beaten + 30) now

abbrev pub was_put : Bool → Beat
was_put true = beat.Put
was_put false = beat.Lost

module _ {L : Type 0} (acts : Link.Ghosts L) where
  abbrev pub beat_by : Streamer L → ℕ → Bool → L → Streamer L
  beat_by p now sent c = record p {
    view =
        if sent then beaten_at now p.view
        else broken_by (Put (2 ^ 64 - 1)) (beaten_at now p.view);
    frame = over (heartbeat p.view) p.frame;
    link = c;
  }

  pub record PutsBeat (now : ℕ) (p : Streamer L) (r : Result Beat Refusal)
      (q : Streamer L) : Type 0 where
    pub sent : Bool
    pub acted : acts.puts p.link (octets_of (heartbeat p.view)) sent q.link
    pub result : r ≡ Ok (was_put sent)
    pub is : q ≡ beat_by p now sent q.link

  abbrev pub BeatsIf : Bool → ℕ → Streamer L → Result Beat Refusal → Streamer L → Type 0
  BeatsIf true now p r q = PutsBeat now p r q
  BeatsIf false now p r q = (r ≡ Ok beat.Idle) × (q ≡ p)

  abbrev pub Beats : ℕ → Streamer L → Result Beat Refusal → Streamer L → Type 0
  Beats now p r q = BeatsIf (is_due p.view now) now p r q
