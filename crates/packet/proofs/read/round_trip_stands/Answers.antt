use Rattle.packet.proofs.Reading.{unique, round_trip}
use Rattle.packet.proofs.read.round_trip_stands.Goals as goal

pub returns : goal.returns
returns c = (unique, round_trip)
