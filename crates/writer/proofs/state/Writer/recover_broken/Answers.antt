use Rattle.std.proofs.Common.{sym, ap, ◌∙◌, subst}
use Rattle.writer.specs.declared.terms.Terms.{Terms}
use Rattle.writer.specs.Recovering.{left_of, gone_of}
use Rattle.writer.specs.Sizes.{Suffice}
use Rattle.writer.specs.States.{IsBrokenState}
use Rattle.writer.specs.Views.{View}
use Rattle.writer.proofs.state.Writer.recover_broken.Goals as goal

pub choose_and_rebuild-requires : goal.choose_and_rebuild-requires
choose_and_rebuild-requires g c =
    let x = c.in-Ok.ensures in
    let w = c.args.self.now in
    let e = x.view in
    let p = x.parted in
    let state = ap (λ (v : View). v.state) e in
    let terms = ap (λ (v : View). v.terms) e in
    record {
      is_broken = subst IsBrokenState (sym state) c.requires.is_broken;
      buffers = subst (λ (t : Terms). Suffice t c.args.store.now c.args.frame.now) (sym terms) c.requires.buffers;
      left = p.0 ∙ ap left_of (sym e);
      gone = p.1 ∙ ap gone_of (sym e);
      some_left = p.2;
    }
