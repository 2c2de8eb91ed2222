-- The datanodes that a cause holds to have failed. Assumes nothing.
use Rattle.std.specs.Prelude.{true, false, [], ◌∷◌}
use Rattle.ack.specs.declared.tally.FailedNodes.{FailedNodes}
use Rattle.writer.specs.declared.cause.Cause.{Cause}
use Rattle.writer.specs.declared.cause.Cause.TheVariants.{Put, Link, Replies, Decoding}

-- the first one alone
abbrev pub first_failed : FailedNodes
first_failed =
    record {
      positions = true ∷ false ∷ false ∷ false ∷ false ∷ false ∷ false ∷ false ∷ [];
      count = 1;
      highest = 0;
    }

abbrev pub failed_in : Cause → FailedNodes
failed_in (Put n) = first_failed
failed_in Link = first_failed
failed_in (Replies f) = f
failed_in (Decoding e) = first_failed
