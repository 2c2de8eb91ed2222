use Rattle.std.proofs.Common.{◌≡◌, ℕ, true, false, [], sym, refl, subst, arith}
use Rattle.packet.specs.declared.frame.WritePacket.{WritePacket}
use Rattle.packet.specs.Frame.{fits_in, summed}
use Rattle.packet.proofs.Room.{size_fits}
use Rattle.writer.proofs.state.Writer.put_beat.Goals as goal

pub put_packet-put-requires : goal.put_packet-put-requires
put_packet-put-requires g c =
    let w = c.args.self.now in
    let p : WritePacket = record { offset = 0; seqno = 18446744073709551615; last = false; «data» = record { ref_ptr = (0, 0); now = [] } } in
    subst (λ (k : ℕ). fits_in (summed k p) c.args.frame.now ≡ true) (sym c.chunk_size.ensures) (size_fits w.terms.size (summed w.terms.size.chunk p) c.args.frame.now refl (omega arith) c.requires.frame_len)
