use Rattle.std.proofs.Common.{◌≡◌, ◌+◌, ◌-◌, ◌*◌, ◌≤◌, length}
use Rattle.writer.specs.declared.state.kind.State.TheVariants.{Streaming}
use Rattle.writer.specs.Calls.{streamer_of}
use Rattle.writer.specs.Sizes.{Suffice}
use Rattle.writer.proofs.Turns.{Continues}
use Rattle.writer.proofs.state.Writer.pour.Given as goal

abbrev pub invariant-turns : goal.invariant-turns
invariant-turns g l =
    (l.taken ≤ length l.bytes)
    × (l.self.state ≡ Streaming)
    × Suffice l.self.terms l.store l.frame
    × Continues g.L.Link (streamer_of l.initial.self l.initial.store l.initial.frame l.initial.link) l.bytes l.taken (streamer_of l.self l.store l.frame l.link)

abbrev pub decreases-turns : goal.decreases-turns
decreases-turns g l = 2 * (length l.bytes - l.taken) + l.self.filling
