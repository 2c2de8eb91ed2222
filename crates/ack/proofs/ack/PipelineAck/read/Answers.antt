use Rattle.std.proofs.Common.{sym, ap, ◌∙◌}
use Rattle.wire.specs.Read.{decoded}
use Rattle.wire.proofs.Messages.{decoded_map}
use Rattle.ack.specs.Acks.{merge_ack, no_fields, ack_of}
use Rattle.ack.specs.Reading.{merges_ack, ack_of_fields, ack_read}
use Rattle.ack.proofs.Tallies.{held_merge, held_none}
use Rattle.ack.proofs.ack.PipelineAck.read.Goals as goal

pub returns : goal.returns
unfolding ack_read ack_of
returns c = c.decode.ensures ∙ ap (λ s. decoded merges_ack s c.args.input.now) (sym held_none) ∙ decoded_map ack_of_fields merge_ack merges_ack held_merge no_fields c.args.input.now
