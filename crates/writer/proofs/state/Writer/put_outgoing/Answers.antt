use Rattle.std.proofs.Common.{◌≡◌, ℕ, ◌+◌, ◌-◌, ◌≤◌, true, length, drop, sym, refl, ap, subst, arith, length-take}
use Rattle.packet.specs.declared.frame.WritePacket.{WritePacket}
use Rattle.packet.specs.Frame.{fits_in, summed}
use Rattle.packet.proofs.Room.{size_fits}
use Rattle.writer.specs.Sizes.{capacity}
use Rattle.writer.proofs.Rooms.{filling_small}
use Rattle.writer.proofs.state.Writer.put_outgoing.Goals as goal

pub bytes_at-requires : goal.bytes_at-requires
bytes_at-requires g c = let w = c.args.self.now in omega (arith, c.slot_start.ensures.within, filling_small w, c.requires.buffers.store_len)

pub put_packet-requires : goal.put_packet-requires
put_packet-requires g c =
    let w = c.args.self.now in
    let p : WritePacket = record { offset = w.len - w.filling; seqno = w.first + w.count; last = c.has_ended.result; «data» = c.bytes_at.result } in
    let long : length c.bytes_at.result.now ≤ capacity w.terms =
    omega (arith, ap length c.bytes_at.ensures, length-take w.filling (drop c.slot_start.result c.args.store.now), filling_small w) in
    let e = c.chunk_size.ensures in
    subst (λ (k : ℕ). fits_in (summed k p) c.args.frame.now ≡ true) (sym e) (size_fits w.terms.size (summed w.terms.size.chunk p) c.args.frame.now refl long c.requires.buffers.frame_len)
