-- That the buffers suffice: every packet within its capacity is framed. Assumes nothing.
use Rattle.std.specs.Prelude.{◌≡◌, ℕ, ◌≤◌, true, false, List, length}
use Rattle.packet.specs.Frame.{Packet, fits_in}
use Rattle.packet.specs.Sizes.{chunk_size_refused, packet_size_refused, capacity_of, first_capacity_of, frame_capacity_of}
use Rattle.packet.specs.Sums.{sums_of}

-- by accepted sizes, the frame of a packet within the capacity fits a buffer of the frame capacity, and its lengths
abbrev pub FramesFit : Type 0
FramesFit = (c p : ℕ) (q : Packet) (buffer : List ℕ) → chunk_size_refused c ≡ false → packet_size_refused 4 c p ≡ false → q.sums ≡ sums_of c q.bytes
    → length q.bytes ≤ capacity_of 4 c p → frame_capacity_of 4 c p ≤ length buffer → fits_in q buffer ≡ true

-- the first packet is within the capacity
abbrev pub FirstWithin : Type 0
FirstWithin = (c p n : ℕ) → chunk_size_refused c ≡ false → packet_size_refused 4 c p ≡ false → first_capacity_of 4 c p n ≤ capacity_of 4 c p
