use Rattle.std.proofs.Common.{◌≡◌, ℕ, ◌≤◌, true, length, drop, sym, refl, ap, subst, arith, length-take}
use Rattle.packet.specs.declared.frame.WritePacket.{WritePacket}
use Rattle.packet.specs.Frame.{fits_in, summed}
use Rattle.packet.proofs.Room.{size_fits}
use Rattle.writer.specs.Sizes.{capacity}
use Rattle.writer.proofs.state.Writer.put_held.Goals as goal

pub bytes_at-requires : goal.bytes_at-requires
bytes_at-requires g c = omega (arith, c.slot_of.ensures.within, c.held_len.ensures.within, c.requires.buffers.store_len)

pub put_packet-requires : goal.put_packet-requires
put_packet-requires g c =
    let w = c.args.self.now in
    let p : WritePacket = record { offset = c.args.offset; seqno = c.args.seqno; last = c.args.last; «data» = c.bytes_at.result } in
    let long : length c.bytes_at.result.now ≤ capacity w.terms =
    omega (arith, ap length c.bytes_at.ensures, length-take c.held_len.result (drop c.slot_of.result c.args.store.now), c.held_len.ensures.within) in
    subst (λ (k : ℕ). fits_in (summed k p) c.args.frame.now ≡ true) (sym c.chunk_size.ensures) (size_fits w.terms.size (summed w.terms.size.chunk p) c.args.frame.now refl long c.requires.buffers.frame_len)
