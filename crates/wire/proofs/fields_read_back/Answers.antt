use Rattle.wire.proofs.Back.{field_back}
use Rattle.wire.proofs.fields_read_back.Goals as goal

pub returns : goal.returns
returns c = field_back
