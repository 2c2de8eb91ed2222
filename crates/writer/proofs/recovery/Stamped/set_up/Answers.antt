use Rattle.std.proofs.Common.{Err, vec_items, refl, ap, ◌∙◌}
use Rattle.std.proofs.lemmas.Result.{err_from_is_err_and}
use Rattle.pipeline.specs.Channels.{channel_view}
use Rattle.writer.specs.Views.{view_of}
use Rattle.writer.proofs.Stages.{granted, refused, set_up_on}
use Rattle.writer.proofs.recovery.Stamped.set_up.Goals as goal

pub returns-in_err-map_err-clause-acts : goal.returns-in_err-map_err-clause-acts
returns-in_err-map_err-clause-acts g c =
    let p = err_from_is_err_and c.from_residual.result c.from_residual.ensures.1 in
    set_up_on g.L.Link (view_of c.args.writer.now) c.args.token.now c.as_slice.result.now (vec_items c.args.writer.now.chosen.rows) c.args.self
    (channel_view c.args.channel.now) c.set_up.result c.from_residual.result (channel_view c.set_up.new.self) c.set_up.ensures.acts c.as_slice.ensures
    (record { of_block = c.block.ensures; of_token = refl; of_client = refl; of_stage = refl; of_least = refl; of_most = refl; of_latest = refl; of_chunk = c.chunk_size.ensures })
    (p.1 ∙ ap Err p.2 ∙ refused c.set_up.result c.args.self c.in_err-map_err.field-0.0 c.in_err-map_err.ensures.cases)

pub returns-clause-acts : goal.returns-clause-acts
returns-clause-acts g c =
    set_up_on g.L.Link (view_of c.args.writer.now) c.args.token.now c.as_slice.result.now (vec_items c.args.writer.now.chosen.rows) c.args.self
    (channel_view c.args.channel.now) c.set_up.result _ (channel_view c.set_up.new.self) c.set_up.ensures.acts c.as_slice.ensures
    (record { of_block = c.block.ensures; of_token = refl; of_client = refl; of_stage = refl; of_least = refl; of_most = refl; of_latest = refl; of_chunk = c.chunk_size.ensures })
    (granted _ c.set_up.result c.args.self c.in_ok-map_err.ensures.cases)
