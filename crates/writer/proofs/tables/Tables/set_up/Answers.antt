use Rattle.std.proofs.Common.{vec_items, refl}
use Rattle.pipeline.specs.Channels.{channel_view}
use Rattle.writer.proofs.Openings.{set_up_for}
use Rattle.writer.proofs.tables.Tables.set_up.Goals as goal

pub returns-clause-acts : goal.returns-clause-acts
returns-clause-acts g c =
    set_up_for g.L.Link c.args.opening c.args.terms.now c.args.token.now c.as_slice.result.now (vec_items c.args.self.now.nodes.rows)
    (channel_view c.args.channel.now) c.set_up.result (channel_view c.set_up.new.self) c.set_up.ensures.acts c.as_slice.ensures
    (record { of_block = refl; of_token = refl; of_client = refl; of_stage = c.stage_for.ensures; of_least = refl; of_most = refl; of_latest = refl; of_chunk = refl })
