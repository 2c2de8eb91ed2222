use Rattle.packet.proofs.Room.{frames_fit, first_within}
use Rattle.packet.proofs.frame.room_stands.Goals as goal

pub returns : goal.returns
returns c = (frames_fit, first_within)
