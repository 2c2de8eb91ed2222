use Rattle.std.proofs.Common.{◌≡◌, Ok, Err, Some, None, vec_items, sym, ap, subst, arith, rules}
use Rattle.std.specs.Result.{result_err}
use Rattle.writer.specs.declared.refusal.Refusal.TheVariants as refusal
use Rattle.writer.specs.Admits.{lengths_of}
use Rattle.writer.specs.Settling.{Settled}
use Rattle.writer.specs.Opening.{Started}
use Rattle.writer.specs.Views.{view_of}
use Rattle.writer.proofs.Openings.{opened}
use Rattle.writer.proofs.state.Writer.open.Goals as goal

pub returns-in-Ok-set_up-clause-opened : goal.returns-in-Ok-set_up-clause-opened
returns-in-Ok-set_up-clause-opened g c =
    let o = c.args.opening in
    let l = lengths_of c.args.store.now c.args.frame.now c.args.request.now c.args.answer.now in
    let nodes = vec_items c.settle.new.self.nodes.rows in
    let is : c.settle.result ≡ Ok c.in-Ok.settled = grind arith in
    let s = subst (λ z. Settled o l nodes z) is (subst (λ z. Settled o z nodes c.settle.result) c.of.ensures c.settle.ensures) in
    let granted : c.set_up.result ≡ Ok tt = grind arith in
    let why : result_err c.accepted.result.outcome ≡ None = ap result_err c.accepted.ensures.well in
    let z = opened g.L.Link o l nodes c.in-Ok.settled.0 c.in-Ok.settled.1 _ c.set_up.result _ (view_of c.accepted.result.writer) _ s c.set_up.ensures.acts
    (subst (λ z. Started z o l c.in-Ok.settled.1 nodes (result_err c.accepted.result.outcome) (view_of c.accepted.result.writer)) (sym granted) (why, c.accepted.ensures.opened l s.terms)) in
    search rules

pub returns-in-Err-set_up-clause-opened : goal.returns-in-Err-set_up-clause-opened
returns-in-Err-set_up-clause-opened g c =
    let o = c.args.opening in
    let l = lengths_of c.args.store.now c.args.frame.now c.args.request.now c.args.answer.now in
    let nodes = vec_items c.settle.new.self.nodes.rows in
    let w = c.refused-in-Err-set_up.result in
    let is : c.settle.result ≡ Ok c.in-Ok.settled = grind arith in
    let s = subst (λ z. Settled o l nodes z) is (subst (λ z. Settled o z nodes c.settle.result) c.of.ensures c.settle.ensures) in
    let lost : c.set_up.result ≡ Err c.in-Err-set_up.why = grind arith in
    let why : result_err w.outcome ≡ Some (refusal.SetUp c.in-Err-set_up.why) = ap result_err c.refused-in-Err-set_up.ensures.why in
    let z = opened g.L.Link o l nodes c.in-Ok.settled.0 c.in-Ok.settled.1 _ c.set_up.result _ (view_of w.writer) _ s c.set_up.ensures.acts
    (subst (λ z. Started z o l c.in-Ok.settled.1 nodes (result_err w.outcome) (view_of w.writer)) (sym lost) (why, c.refused-in-Err-set_up.ensures.closed)) in
    search rules
