use Rattle.request.proofs.Meant.{read_as_meant}
use Rattle.request.proofs.requests_read_back.Goals as goal

pub returns : goal.returns
returns c = λ w fit. read_as_meant w fit
