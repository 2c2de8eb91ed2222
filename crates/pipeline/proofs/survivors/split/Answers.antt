use Rattle.pipeline.proofs.Splitting.{left_all, gone_all, none_left}
use Rattle.pipeline.proofs.survivors.split.Goals as goal

pub returns-clause-left : goal.returns-clause-left
returns-clause-left c = left_all _ _ _ _ (none_left _ _ c.in-None.ensures.steps c.loop-node.invariant.4) c.loop-node.invariant.0

pub returns-clause-gone : goal.returns-clause-gone
returns-clause-gone c = gone_all _ _ _ _ (none_left _ _ c.in-None.ensures.steps c.loop-node.invariant.4) c.loop-node.invariant.1
