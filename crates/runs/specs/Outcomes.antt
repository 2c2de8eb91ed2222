-- Why a call was refused, by what it answered. Assumes nothing.
use Rattle.std.specs.Prelude.{Option}
use Rattle.std.specs.Result.{result_err}
use Rattle.writer.specs.declared.refusal.Refusal.{Refusal}
use Rattle.runs.specs.declared.command.Outcome.{Outcome}
use Rattle.runs.specs.declared.command.Outcome.TheVariants.{Wrote, Heard, Beaten, Ended, Recovered}

abbrev pub refusal_in : Outcome → Option Refusal
refusal_in (Wrote r) = result_err r
refusal_in (Heard r) = result_err r
refusal_in (Beaten r) = result_err r
refusal_in (Ended r) = result_err r
refusal_in (Recovered r) = result_err r
