use Rattle.std.proofs.Common.{◌≡◌, ◌+◌, ◌<◌, sym, ap, ◌∙◌, arith}
use Rattle.std.specs.Prelude.{if◌then◌else◌}
use Rattle.writer.specs.declared.state.kind.State.{State}
use Rattle.writer.specs.States.{ended, last_ones}
use Rattle.writer.proofs.Rooms.{room_some}
use Rattle.writer.proofs.state.Writer.turn.Goals as goal

pub hand_over-requires : goal.hand_over-requires
hand_over-requires g c =
    let w = c.args.self.now in
    let on = c.requires.state_value in
    let none : last_ones w.state ≡ 0 = ap last_ones on in
    let some : 0 < w.filling = omega (arith, room_some w.terms (w.first + w.count), c.packet_capacity.ensures) in
    record { buffers = c.requires.buffers; count_bound = omega arith; initial_len_bound = omega (arith, w.numbers); state_value = none ∙ sym (ap (λ (s : State). if ended s then 1 else 0) on) }
