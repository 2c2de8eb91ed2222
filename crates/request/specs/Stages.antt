-- BlockConstructionStage of datatransfer.proto. Assumes nothing.
use Rattle.std.specs.Prelude.{ℕ}
use Rattle.request.specs.declared.stage.Stage.{Stage}
use Rattle.request.specs.declared.stage.Stage.TheVariants.{SetupAppend, SetupStreamingRecovery, SetupCreate}

abbrev pub stage_number : Stage → ℕ
stage_number SetupAppend = 0
stage_number SetupStreamingRecovery = 3
stage_number SetupCreate = 6
