use Rattle.std.proofs.Common.{Err, ap}
use Rattle.pipeline.specs.Channels.{channel_view}
use Rattle.writer.proofs.Stages.{with_view}
use Rattle.writer.proofs.state.Writer.build.Goals as goal

pub returns-in-Err-clause-acts : goal.returns-in-Err-clause-acts
returns-in-Err-clause-acts g c = record {
  set_up = Err c.in-Err.refusal;
  channel = channel_view c.set_up.new.channel;
  sets_up = c.in-Err.ensures.acts;
  follows = (ap Err c.close_by.ensures.value, with_view c.close_by.ensures.view);
}
