use Rattle.std.proofs.Common.{◌∙◌}
use Rattle.recording.proofs.Cuts.{whole, count_is}
use Rattle.recording.proofs.cut.packet_count.Goals as goal

pub returns-clause-whole : goal.returns-clause-whole
returns-clause-whole c = whole c.args.capacity c.args.block.now _ (c.div_ceil.ensures ∙ count_is _ _ c.if-capacity-eq0.false)
