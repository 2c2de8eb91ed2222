-- What a call of a link did: what was asked, what came, and what that leaves in the buffer that was lent. Assumes nothing.
use Rattle.std.specs.Prelude.{◌≡◌, ℕ, ◌≤◌, List, ◌++◌, length, drop, Some, None, Option, Ok, Err, Result}

-- what a link had when it was asked for the next answer
pub data Came : Type 0 where
  nothing : Came
  lost : Came
  answer : List ℕ → Came

-- a message of n octets stands at the front of a buffer, and behind it what stood there
pub record Front (message before after : List ℕ) (n : ℕ) : Type 0 where
  pub long : length message ≡ n
  pub fits : n ≤ length before
  pub is : after ≡ message ++ drop n before

-- a response came, or the request was lost; `act` says of each whether the link did it
abbrev pub Replied : {E : Type 0} → (Option (List ℕ) → Type 0) → List ℕ → List ℕ → Result ℕ E → Type 0
Replied act before after (Ok n) = (message : List ℕ) × (Front message before after n × act (Some message))
Replied act before after (Err e) = (after ≡ before) × act None

-- an answer came, or none, or the link was lost
abbrev pub Answered : {E : Type 0} → (Came → Type 0) → List ℕ → List ℕ → Result (Option ℕ) E → Type 0
Answered act before after (Ok None) = (after ≡ before) × act nothing
Answered act before after (Ok (Some n)) = (message : List ℕ) × (Front message before after n × act (answer message))
Answered act before after (Err e) = (after ≡ before) × act lost
