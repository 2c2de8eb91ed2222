-- What was heard, as what came. Assumes nothing.
use Rattle.std.proofs.Common.{◌≡◌, ℕ, List, ◌++◌, drop, Some, None, Ok, Err, Result, sym, refl, ap, ◌∙◌}
use Rattle.wire.specs.declared.field.DecodeError.{DecodeError}
use Rattle.ack.specs.declared.ack.Verdict.{Verdict}
use Rattle.chain.specs.declared.link.Link as Link
use Rattle.chain.specs.Acts.{Came, nothing, lost, answer}
use Rattle.sending.specs.declared.ask.AskError.TheVariants.{Lost, Undecodable}
use Rattle.sending.specs.Asking.{Heard, heard_of, heard_in, answer_over, Says, Hears}

-- an act, with what it is heard as and what it leaves in the buffer
pub record Comes {L : Type 0} (acts : Link.Ghosts L) (a : L) (before after : List ℕ) (b : L) (h : Heard) : Type 0 where
  pub came : Came
  pub acted : acts.nexts a came b
  pub heard : h ≡ heard_in came
  pub buffer : after ≡ answer_over came before

module _ {L : Type 0} (acts : Link.Ghosts L) (a : L) (before after : List ℕ) (b : L) where
  said : (r : Result Verdict DecodeError) → Says acts a before after b r → Comes acts a before after b (heard_of r)
  said r s = record {
    came = answer s.message;
    acted = s.came;
    heard = ap heard_of (sym s.is);
    buffer = s.front.is ∙ ap (λ (n : ℕ). s.message ++ drop n before) (sym s.front.long);
  }

  pub comes : (h : Heard) → Hears acts a before after b h → Comes acts a before after b h
  comes (Ok None) x = record { came = nothing; acted = x.1; heard = refl; buffer = x.0 }
  comes (Ok (Some v)) x = said (Ok v) x
  comes (Err Lost) x = record { came = lost; acted = x.1; heard = refl; buffer = x.0 }
  comes (Err (Undecodable e)) x = said (Err e) x
