-- How many bytes the packets of a block take, and which buffers suffice for them. Assumes nothing.
use Rattle.std.specs.Prelude.{◌≡◌, ℕ, ◌≤◌, if◌then◌else◌, List, length, ◌==◌}
use Rattle.packet.specs.Sizes.{capacity_of, first_capacity_of, frame_capacity_of}
use Rattle.writer.specs.declared.terms.Terms.{Terms}

abbrev pub capacity : Terms → ℕ
capacity t = capacity_of 4 t.size.chunk t.size.packet

-- the first packet of an append ends the chunk that was begun
abbrev pub room_at : Terms → ℕ → ℕ
room_at t n =
    if n == 0 then first_capacity_of 4 t.size.chunk t.size.packet t.initial_len else capacity t

-- so many octets hold every frame
abbrev pub frame_room : Terms → ℕ
frame_room t = frame_capacity_of 4 t.size.chunk t.size.packet

-- the store is as long as the one that the block was opened with, and the frame buffer holds every frame
pub record Suffice (t : Terms) (store frame : List ℕ) : Type 0 where
  pub store_len : length store ≡ t.store_len
  pub frame_len : frame_room t ≤ length frame
