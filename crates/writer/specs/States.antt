-- What a state says. Assumes nothing.
use Rattle.std.specs.Prelude.{ℕ, Bool, true, false, if◌then◌else◌}
use Rattle.ack.specs.declared.tally.FailedNodes.{FailedNodes}
use Rattle.writer.specs.declared.state.kind.State.{State}
use Rattle.writer.specs.declared.state.kind.State.TheVariants.{Streaming, Finishing, Broken, Complete, Closed}
use Rattle.writer.specs.Causes.{first_failed, failed_in}

-- the last packet is handed over. Of a closed writer nothing is said
abbrev pub ended : State → Bool
ended Streaming = false
ended Finishing = true
ended (Broken cause finished) = finished
ended Complete = true
ended Closed = false

-- the pipeline is whole, and answers are asked for
abbrev pub listens : State → Bool
listens Streaming = true
listens Finishing = true
listens (Broken cause finished) = false
listens Complete = false
listens Closed = false

-- how many packets without data there may be
abbrev pub last_ones : State → ℕ
last_ones Streaming = 0
last_ones Finishing = 1
last_ones (Broken cause finished) = if finished then 1 else 0
last_ones Complete = 1
last_ones Closed = 1

-- the nodes that failed; of a pipeline that is not broken none is asked for
abbrev pub failed_on : State → FailedNodes
failed_on Streaming = first_failed
failed_on Finishing = first_failed
failed_on (Broken cause finished) = failed_in cause
failed_on Complete = first_failed
failed_on Closed = first_failed

-- the pipeline is broken
abbrev pub IsBrokenState : State → Type 0
IsBrokenState Streaming = ⊥
IsBrokenState Finishing = ⊥
IsBrokenState (Broken cause finished) = Unit {0}
IsBrokenState Complete = ⊥
IsBrokenState Closed = ⊥
