use Rattle.std.proofs.Common.{length, ap, ◌∙◌, vec_items, arith}
use Rattle.ack.specs.declared.tally.FailedNodes.{FailedNodes}
use Rattle.pipeline.specs.Survivors.{survivors, failed_of}
use Rattle.pipeline.proofs.Splitting.{all_but}
use Rattle.writer.specs.States.{failed_on}
use Rattle.writer.proofs.state.Writer.survive.Goals as goal

pub returns-clause-parted : goal.returns-clause-parted
returns-clause-parted c =
    let w = c.args.self.now in
    let nodes = vec_items w.nodes.rows in
    let failed = failed_on w.state in
    let is = c.failed_nodes-failed.ensures in
    let left = c.split.ensures.left ∙ ap (λ (f : FailedNodes). survivors f.positions c.as_slice.result.now) is ∙ ap (survivors failed.positions) c.as_slice.ensures in
    let gone = c.split.ensures.gone ∙ ap (λ (f : FailedNodes). failed_of f.positions c.as_slice.result.now) is ∙ ap (failed_of failed.positions) c.as_slice.ensures in
    let fewer = ap (λ (f : FailedNodes). f.count) is in
    (left, gone, omega (arith, ap length left, all_but failed.positions nodes, w.tallied, fewer, c.if-failed-count.false, c.len-count.ensures))
