use Rattle.std.proofs.Common.{sym}
use Rattle.std.proofs.lemmas.Bool.{lt-leb, and_left}
use Rattle.proto.specs.Rules.{is_datanode}
use Rattle.proto.proofs.Forms.{refused_for}
use Rattle.proto.proofs.datanode.Datanode.new.Goals as goal

pub returns-then-not-is_node : goal.returns-then-not-is_node
returns-then-not-is_node c = sym c.if-not-is_node.ensures

pub returns-in_err-ok : goal.returns-in_err-ok
unfolding is_datanode
returns-in_err-ok c =
    let long = refused_for _ c.try_from.result c.in_err-ok.ensures.value c.try_from.ensures in
    rw c.from_residual.ensures (and_left _ _ (and_left _ _ (lt-leb _ _ long)))
