use Rattle.std.proofs.Common.{vec_items, refl, ◌∙◌, arith}
use Rattle.pipeline.proofs.Placing.{at_place, at_end}
use Rattle.pipeline.proofs.nodes.NodeTable.put.Goals as goal

pub returns-then-i-len : goal.returns-then-i-len
returns-then-i-len c = record { items = at_place (vec_items c.args.self.now.rows) c.args.i c.args.node.now (omega arith); capacity = refl }

pub returns-else-i-len : goal.returns-else-i-len
returns-else-i-len c = record {
  items = c.push.ensures.items ∙ at_end (vec_items c.args.self.now.rows) c.args.i c.args.node.now (omega arith);
  capacity = c.push.ensures.capacity;
}
