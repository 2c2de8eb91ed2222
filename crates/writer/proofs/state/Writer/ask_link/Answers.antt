use Rattle.std.proofs.Common.{ap, ◌∙◌, subst}
use Rattle.ack.proofs.Tallied.{verdict_tallied}
use Rattle.sending.specs.Asking.{Heard, Hears}
use Rattle.sending.proofs.Coming.{comes}
use Rattle.writer.specs.Views.{view_of}
use Rattle.writer.specs.Heeding.{decided, answer_of, view_after}
use Rattle.writer.proofs.state.Writer.ask_link.Goals as goal

pub hear-requires-clause-tallied : goal.hear-requires-clause-tallied
hear-requires-clause-tallied g c f e =
    let said = subst (Hears g.L.Link c.args.link.now c.args.answer.now c.ask-heard.new.answer c.ask-heard.new.link) e c.ask-heard.ensures in
    verdict_tallied said.message f said.is

pub returns : goal.returns
returns g c =
    let v = view_of c.args.self.now in
    let x = comes g.L.Link c.args.link.now c.args.answer.now c.ask-heard.new.answer c.ask-heard.new.link c.ask-heard.result c.ask-heard.ensures in
    record {
      came = x.came;
      acted = x.acted;
      result = c.hear.ensures.result ∙ ap (λ (h : Heard). answer_of (decided v h)) x.heard;
      writer = c.hear.ensures.view ∙ ap (λ (h : Heard). view_after v (decided v h)) x.heard;
      answer = x.buffer;
    }
