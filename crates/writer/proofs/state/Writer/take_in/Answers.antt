use Rattle.std.proofs.Common.{◌+◌, arith}
use Rattle.writer.proofs.Rooms.{room_within}
use Rattle.writer.proofs.state.Writer.take_in.Goals as goal

pub slice_bounds-copy_from_slice-end : goal.slice_bounds-copy_from_slice-end
slice_bounds-copy_from_slice-end c =
    let w = c.args.self.now in
    omega (arith, c.slot_start.ensures.within, c.room_for-n.ensures.within, room_within w.terms (w.first + w.count))
