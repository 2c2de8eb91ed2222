-- An answer asked for: the act that came, and what the answer says. Assumes nothing.
use Rattle.std.specs.Prelude.{◌≡◌, ℕ, List, ◌++◌, length, drop, Some, None, Option, Ok, Err, Result}
use Rattle.wire.specs.declared.field.DecodeError.{DecodeError}
use Rattle.ack.specs.declared.ack.Verdict.{Verdict}
use Rattle.ack.specs.Verdicts.{verdict_on}
use Rattle.chain.specs.declared.link.Link as Link
use Rattle.chain.specs.Acts.{Came, nothing, lost, answer, Front}
use Rattle.sending.specs.declared.ask.AskError.{AskError}
use Rattle.sending.specs.declared.ask.AskError.TheVariants.{Lost, Undecodable}

-- what was heard: no answer yet, a verdict, or why there is none
abbrev pub Heard : Type 0
Heard = Result (Option Verdict) AskError

abbrev pub heard_of : Result Verdict DecodeError → Heard
heard_of (Ok v) = Ok (Some v)
heard_of (Err e) = Err (Undecodable e)

module _ {L : Type 0} (acts : Link.Ghosts L) where
  -- an answer came, stands at the front of the buffer, and is judged so
  pub record Says (a : L) (before after : List ℕ) (b : L)
      (said : Result Verdict DecodeError) : Type 0 where
    pub message : List ℕ
    pub long : ℕ
    pub front : Front message before after long
    pub came : acts.nexts a (answer message) b
    pub is : verdict_on message ≡ said

  abbrev pub Hears : L → List ℕ → List ℕ → L → Heard → Type 0
  Hears a before after b (Ok None) = (after ≡ before) × acts.nexts a nothing b
  Hears a before after b (Ok (Some v)) = Says a before after b (Ok v)
  Hears a before after b (Err Lost) = (after ≡ before) × acts.nexts a lost b
  Hears a before after b (Err (Undecodable e)) = Says a before after b (Err e)

-- what is heard where that came, and what it leaves in the buffer
abbrev pub heard_in : Came → Heard
heard_in nothing = Ok None
heard_in lost = Err Lost
heard_in (answer message) = heard_of (verdict_on message)

abbrev pub answer_over : Came → List ℕ → List ℕ
answer_over nothing before = before
answer_over lost before = before
answer_over (answer message) before = message ++ drop (length message) before
