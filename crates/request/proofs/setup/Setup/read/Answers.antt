use Rattle.std.proofs.Common.{◌≡◌, Ok, Err, Result, refl, ap, ◌∙◌}
use Rattle.std.specs.Result.{result_ok}
use Rattle.wire.specs.declared.field.DecodeError.{DecodeError}
use Rattle.request.specs.declared.setup.Setup.{Setup}
use Rattle.request.specs.Setups.{well_read, setup_in, setup_of}
use Rattle.request.proofs.setup.Setup.read.Goals as goal

well_read_ok : (r : Result Setup DecodeError) → result_ok r ≡ well_read r
well_read_ok (Ok s) = refl
well_read_ok (Err e) = refl

pub returns-in_err-message_of : goal.returns-in_err-message_of
unfolding setup_of
returns-in_err-message_of c = rw c.from_residual.ensures (ap setup_in c.in_err-message_of.ensures)

pub returns : goal.returns
unfolding setup_of
returns c = c.ok.ensures.value ∙ well_read_ok c.decode.result ∙ ap well_read c.decode.ensures ∙ ap setup_in c.in_ok-message_of.ensures
