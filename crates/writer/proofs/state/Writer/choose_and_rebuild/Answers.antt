use Rattle.std.proofs.Common.{Ok, Err, vec_items, ap, ◌∙◌, subst}
use Rattle.pipeline.specs.Channels.{channel_view}
use Rattle.writer.specs.declared.state.kind.State.TheVariants.{Closed}
use Rattle.writer.specs.Calls.{site_of}
use Rattle.writer.specs.Recovering.{RebuildsOn}
use Rattle.writer.specs.Views.{View, with_state}
use Rattle.writer.proofs.Stages.{with_view}
use Rattle.writer.proofs.state.Writer.choose_and_rebuild.Goals as goal

pub returns-in-Ok-clause-acts : goal.returns-in-Ok-clause-acts
returns-in-Ok-clause-acts g c =
    let chain = vec_items c.choose_pipeline.new.self.chosen.rows in
    let channel = channel_view c.choose_pipeline.new.channel in
    let namenode = c.choose_pipeline.new.namenode in
    let s = site_of c.choose_pipeline.new.self c.args.store.now c.args.frame.now channel namenode in
    record {
      choice = Ok c.in-Ok.choice;
      chain = chain;
      channel = channel;
      namenode = namenode;
      chooses = c.in-Ok.ensures.acts;
      follows =
          subst (λ (v : View). RebuildsOn g.L.Link g.N.NamenodeProtocol c.in-Ok.choice chain c.args.time (record s { view = v }) c.rebuild.result (site_of c.rebuild.new.self c.args.store.now c.rebuild.new.frame (channel_view c.rebuild.new.channel) c.rebuild.new.namenode))
          c.in-Ok.ensures.view c.rebuild.ensures.acts;
    }

pub returns-in-Err-clause-acts : goal.returns-in-Err-clause-acts
returns-in-Err-clause-acts g c = record {
  choice = Err c.in-Err.why;
  chain = vec_items c.choose_pipeline.new.self.chosen.rows;
  channel = channel_view c.choose_pipeline.new.channel;
  namenode = c.choose_pipeline.new.namenode;
  chooses = c.in-Err.ensures.acts;
  follows = (ap Err c.close_by.ensures.value, with_view (c.close_by.ensures.view ∙ ap (with_state Closed) c.in-Err.ensures.view));
}
