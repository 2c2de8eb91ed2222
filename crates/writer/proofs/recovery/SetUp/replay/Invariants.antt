use Rattle.std.proofs.Common.{◌≡◌, ◌+◌, ◌-◌, ◌≤◌, length, vec_items}
use Rattle.held.specs.Slots.{sizes_of, total, packets}
use Rattle.writer.specs.Sizes.{capacity, frame_room}
use Rattle.writer.specs.States.{ended}
use Rattle.writer.specs.Views.{view_of, chunk_of, held_in}
use Rattle.writer.proofs.Replaying.{Onward}
use Rattle.writer.proofs.recovery.SetUp.replay.Given as goal

abbrev pub invariant-packets : goal.invariant-packets
invariant-packets g l =
    (l.i ≤ l.writer.count)
    × (l.offset ≡ l.least + total l.writer.terms.slots (sizes_of (vec_items l.writer.held.records)) l.i l.writer.first)
    × (frame_room l.writer.terms ≤ length l.frame)
    × Onward g.L.Link (held_in (view_of l.writer) l.store l.least) l.initial.frame l.initial.link l.i
    (packets (chunk_of (view_of l.writer)) (capacity l.writer.terms) l.writer.terms.slots (sizes_of (vec_items l.writer.held.records)) l.store (ended l.writer.state) (l.writer.count - l.i) (l.writer.first + l.i) l.offset)
    l.frame l.link
