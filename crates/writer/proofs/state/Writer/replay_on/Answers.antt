use Rattle.std.proofs.Common.{Err, ap}
use Rattle.writer.specs.Views.{view_of}
use Rattle.writer.proofs.Stages.{with_view}
use Rattle.writer.proofs.state.Writer.replay_on.Goals as goal

pub returns-in-Err-clause-acts : goal.returns-in-Err-clause-acts
returns-in-Err-clause-acts g c = record {
  replayed = c.replay-replayed.result;
  frame = c.replay-replayed.new.frame;
  link = c.replay-replayed.new.link;
  replays = c.replay-replayed.ensures;
  told = Err c.in-Err.refusal;
  view = view_of c.update.new.writer;
  namenode = c.update.new.namenode;
  updates = c.in-Err.ensures;
  follows = (ap Err c.close_by.ensures.value, with_view c.close_by.ensures.view);
}
