use Rattle.ack.proofs.Walks.{begin}
use Rattle.ack.proofs.packed.push_packed.Goals as goal

pub loop-b-init : goal.loop-b-init
loop-b-init g c = rw (c.new-varint.ensures.low, c.new-varint.ensures.turn) begin
