use Rattle.crc.proofs.Linear.{steps_xor, after_append}
use Rattle.crc.proofs.laws_stand.Goals as goal

pub returns : goal.returns
returns c = (steps_xor, after_append)
