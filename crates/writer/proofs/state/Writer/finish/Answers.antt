use Rattle.std.proofs.Common.{◌≡◌, None, sym, subst}
use Rattle.writer.specs.Finishing.{finish_refusal}
use Rattle.writer.specs.declared.admit.Call.TheVariants as call
use Rattle.writer.specs.declared.admit.Lengths.{Lengths}
use Rattle.writer.specs.Views.{view_of}
use Rattle.writer.specs.Admits.{lengths_of}
use Rattle.writer.proofs.Admitted.{finishes_fit, fits_state, fits_room, streams_finish}
use Rattle.writer.proofs.state.Writer.finish.Goals as goal

pub end_block-requires : goal.end_block-requires
end_block-requires g c =
    let v = view_of c.args.self.now in
    let l = lengths_of c.args.store.now c.args.frame.now c.args.request.now c.args.answer.now in
    let e = subst (λ (n : Lengths). finish_refusal v n ≡ None) c.of.ensures (sym c.in_ok-admit_finish.ensures) in
    let fit = finishes_fit v l e in
    let room = fits_room v call.Finish l fit.0 in
    record { state_value = streams_finish v.state (fits_state v call.Finish l fit.0); buffers = record { store_len = room.store; frame_len = room.frame }; self_bound = fit.1 }
