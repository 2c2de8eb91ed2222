use Rattle.ack.proofs.Positions.{packed_varints, replies_join, positions_failed, highest_failed, passing}
use Rattle.ack.proofs.laws.laws_stand.Goals as goal

pub returns : goal.returns
returns c = record { packed = packed_varints; joins = replies_join; positions = positions_failed; highest = highest_failed; passing = passing }
