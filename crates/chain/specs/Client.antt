-- A frame sent, and where it was taken an answer asked for. Assumes nothing.
use Rattle.std.specs.Prelude.{◌≡◌, ℕ, true, false, List, Option, Ok, Err, Result}
use Rattle.chain.specs.Acts.{Answered}
use Rattle.chain.specs.declared.client.ExchangeError.{ExchangeError}
use Rattle.chain.specs.declared.client.ExchangeError.TheVariants.{Unsent, Lost}
use Rattle.chain.specs.declared.link.Link as Link

module _ {L : Type 0} (acts : Link.Ghosts L) where
  -- the frame was taken, and then this came of the asking
  pub record Taken (a : L) (frame before after : List ℕ) (b : L) (told : Result (Option ℕ) ExchangeError) : Type 0 where
    pub between : L
    pub put : acts.puts a frame true between
    pub asked : Answered (λ came. acts.nexts between came b) before after told

  abbrev pub Exchanged : L → List ℕ → List ℕ → List ℕ → L → Result (Option ℕ) ExchangeError → Type 0
  Exchanged a frame before after b (Err Unsent) = (after ≡ before) × acts.puts a frame false b
  Exchanged a frame before after b (Err Lost) = Taken a frame before after b (Err Lost)
  Exchanged a frame before after b (Ok came) = Taken a frame before after b (Ok came)
