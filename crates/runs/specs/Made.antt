-- What a client made of a list of commands: all calls for which there were places, in order, what each answered, and that
-- the law holds of what they leave. Assumes nothing.
use Rattle.std.specs.Prelude.{◌≡◌, min, List, ◌++◌, length, map, take, drop, Some, Option}
use Rattle.chain.specs.declared.link.Link as Link
use Rattle.chain.specs.Meaning.{Seen}
use Rattle.namenode.specs.declared.protocol.NamenodeProtocol as NamenodeProtocol
use Rattle.namenode.specs.Entries.{Entry}
use Rattle.writer.specs.declared.opening.Opening.{Opening}
use Rattle.runs.specs.declared.command.Command.{Command}
use Rattle.runs.specs.declared.command.Outcome.{Outcome}
use Rattle.runs.specs.Begins.{Begins}
use Rattle.runs.specs.History.{History}
use Rattle.runs.specs.Law.{Law}
use Rattle.runs.specs.Runs.{Point, Run}

module _ {C N : Type 0} (acts : Link.Ghosts C) (asks : NamenodeProtocol.Ghosts N) (seen : C → Seen)
    (entry : N → Entry) where
  -- `after` is what is left, by what has happened then
  pub record Made (before : Point C N) (commands : List Command) (places : List (Option Outcome))
      (after : History → Point C N) (told : List (Option Outcome)) : Type 0 where
    pub history : History
    pub outcomes : List Outcome
    pub count : length outcomes ≡ min (length commands) (length places)
    pub run : Run acts asks seen (take (length outcomes) commands) before outcomes (after history)
    pub tells : told ≡ map Some outcomes ++ drop (length outcomes) places
    -- whatever calls led from an opening to where these began
    pub lawful : (opening : Opening) (link : C) (p : Point C N) (earlier : List Command)
        (heard : List Outcome)
        → Begins acts seen entry opening link p
        → Run acts asks seen earlier p heard before
        → Law seen entry (after history)
