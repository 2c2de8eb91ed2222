use Rattle.wire.proofs.Back.{decode_back}
use Rattle.wire.proofs.messages_read_back.Goals as goal

pub returns : goal.returns
returns g c = λ merge s fs sound. decode_back merge s fs sound
