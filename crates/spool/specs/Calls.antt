-- What each call of a spool does, as an act. Assumes nothing.
use Rattle.std.specs.Prelude.{◌≡◌, ℕ, ◌<◌, ◌≤◌, Bool, true, List, [], ◌∷◌, ◌++◌, length, drop, replicate, Some, None, Option, Ok, Err, Result}
use Rattle.ack.specs.Written.{answer_octets}
use Rattle.packet.specs.Frame.{Packet}
use Rattle.packet.specs.Reading.{Reads}
use Rattle.request.specs.declared.setup.Setup.{Setup}
use Rattle.request.specs.Setups.{setup_of}
use Rattle.chain.specs.Acts.{Came, nothing, lost, answer}
use Rattle.spool.specs.declared.pending.Pending.{Pending}
use Rattle.spool.specs.Spools.{SpoolView, sets_up, rebuilt_to, put_taken, put_after, confirms_first}

-- status 0: tag 1, a varint
abbrev pub good : List ℕ
good = 8 ∷ 0 ∷ []

-- the response of status 0 at the front of a buffer of two octets at least
abbrev pub responded : {E : Type 0} → List ℕ → List ℕ → Result ℕ E → Type 0
responded before after (Ok n) = (n ≡ 2) × (2 ≤ length before) × (after ≡ good ++ drop 2 before)
responded before after (Err e) = (length before < 2) × (after ≡ before)

-- a set up that is accepted is answered with status 0; any may be lost, which changes nothing
abbrev pub SetsFor : Option Setup → SpoolView → ℕ → SpoolView → Type 0
SetsFor (Some q) v least w = (sets_up v (Some q) least ≡ true) × (w ≡ rebuilt_to v least q.pipeline_size q.chunk_size)
SetsFor None v least w = ⊥

abbrev pub Sets : SpoolView → List ℕ → ℕ → Option (List ℕ) → SpoolView → Type 0
Sets v request least (Some response) w = (response ≡ good) × SetsFor (setup_of request) v least w
Sets v request least None w = w ≡ v

-- a put is decided by the packet that the frame carries
abbrev pub Puts : SpoolView → List ℕ → Bool → SpoolView → Type 0
Puts v frame taken w = (p : Option Packet) × (Reads frame p × (taken ≡ put_taken v p) × (w ≡ put_after v p))

-- the first pending packet is confirmed, by a good reply of each node
abbrev pub AnswersFor : List Pending → SpoolView → List ℕ → SpoolView → Type 0
AnswersFor [] v message w = ⊥
AnswersFor (p ∷ ps) v message w = (message ≡ answer_octets p.seqno (replicate v.nodes 0)) × (w ≡ confirms_first v)

abbrev pub Nexts : SpoolView → Came → SpoolView → Type 0
Nexts v nothing w = (v.pending ≡ []) × (w ≡ v)
Nexts v lost w = w ≡ v
Nexts v (answer message) w = AnswersFor v.pending v message w

abbrev pub Transfers : SpoolView → Option (List ℕ) → SpoolView → Type 0
Transfers v (Some response) w = (response ≡ good) × (w ≡ v)
Transfers v None w = w ≡ v
