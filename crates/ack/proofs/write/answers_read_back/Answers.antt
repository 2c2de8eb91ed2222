use Rattle.ack.proofs.Written.{read_back}
use Rattle.ack.proofs.write.answers_read_back.Goals as goal

pub returns : goal.returns
returns c = read_back
