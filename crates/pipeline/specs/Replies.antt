-- What came of a request to a datanode. Assumes nothing.
use Rattle.std.specs.Prelude.{◌≡◌, ℕ, ◌≤◌, Bool, true, false, List, ◌++◌, length, take, drop, Some, None, Ok, Err, Option, Result, ⊤}
use Rattle.wire.specs.declared.field.DecodeError.{DecodeError}
use Rattle.ack.specs.declared.response.BlockOpResponse.{BlockOpResponse}
use Rattle.ack.specs.Responses.{response_of, is_success}
use Rattle.pipeline.specs.declared.reply.ReplyError.{ReplyError}
use Rattle.pipeline.specs.declared.reply.ReplyError.TheVariants.{Lost, Undecodable, Status}

-- a request was granted, or why not
abbrev pub Reply : Type 0
Reply = Result ⊤ ReplyError

abbrev pub granted : Bool → Reply
granted true = Ok tt
granted false = Err Status

abbrev pub answered : Result BlockOpResponse DecodeError → Reply
answered (Ok response) = granted (is_success response.status)
answered (Err fault) = Err Undecodable

-- no response, or what the response says
abbrev pub reply_of : Option (List ℕ) → Reply
reply_of None = Err Lost
reply_of (Some message) = answered (response_of message)

-- how many octets of a buffer a response takes
abbrev pub length_of : Option (List ℕ) → ℕ
length_of None = 0
length_of (Some message) = length message

-- a buffer with the response at its front
abbrev pub overlaid : Option (List ℕ) → List ℕ → List ℕ
overlaid None before = before
overlaid (Some message) before = message ++ drop (length message) before

-- a response of so many octets that stands at a buffer's front
abbrev pub size_of : {E : Type 0} → Result ℕ E → ℕ
size_of (Ok n) = n
size_of (Err e) = 0

abbrev pub front_of : {E : Type 0} → Result ℕ E → List ℕ → Option (List ℕ)
front_of (Ok n) buffer = Some (take n buffer)
front_of (Err e) buffer = None

-- a request was sent by one act of the link; the response that came with it stands in the buffer, and is judged so
pub record Asked (act : Option (List ℕ) → Type 0) (before after : List ℕ) (r : Reply) : Type 0 where
  pub came : Option (List ℕ)
  pub acted : act came
  pub fits : length_of came ≤ length before
  pub buffer : after ≡ overlaid came before
  pub is : r ≡ reply_of came
