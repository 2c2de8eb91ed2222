-- What a pipeline of datanodes means, and what each act makes of it. Assumes nothing.
use Rattle.std.specs.Prelude.{◌≡◌, ℕ, ◌-◌, ◌^◌, ◌≤◌, Bool, true, false, if◌then◌else◌, List, [], ◌∷◌, ◌++◌, length, take, Some, None, Option, ◌==◌, ◌≢◌}
use Rattle.ack.specs.Verdicts.{passes}
use Rattle.packet.specs.Frame.{Packet, octets_of}
use Rattle.packet.specs.Reading.{Carried}
use Rattle.packet.specs.Sums.{sums_of}
use Rattle.request.specs.declared.setup.Setup.{Setup}
use Rattle.request.specs.Setups.{setup_of}
use Rattle.chain.specs.Acts.{Came, nothing, lost, answer}

-- the bytes that all datanodes have confirmed, the packets that were taken and are not confirmed, the number of datanodes, the chunk size
pub record Seen : Type 0 where
  pub kept : List ℕ
  pub pending : List Packet
  pub nodes : ℕ
  pub chunk : ℕ

-- set up anew, with the bytes up to the least count
abbrev pub rebuilt : Setup → ℕ → Seen → Seen
rebuilt q least s = record s { kept = take least s.kept; pending = []; nodes = q.pipeline_size; chunk = q.chunk_size }

pub record Rebuilds (request : List ℕ) (least : ℕ) (s t : Seen) : Type 0 where
  pub setup : Setup
  pub reads : setup_of request ≡ Some setup
  pub enough : least ≤ length s.kept
  pub is : t ≡ rebuilt setup least s

-- a response says that the pipeline was set up; without one nothing has changed
abbrev pub SetsUp : List ℕ → ℕ → Option (List ℕ) → Seen → Seen → Type 0
SetsUp request least (Some response) s t = Rebuilds request least s t
SetsUp request least None s t = t ≡ s

-- a heartbeat, whose number is -1, is not pending
abbrev pub with_packet : Packet → Seen → Seen
with_packet p s = if p.seqno == 2 ^ 64 - 1 then s else record s { pending = s.pending ++ p ∷ [] }

pub record Takes (frame : List ℕ) (s t : Seen) : Type 0 where
  pub packet : Packet
  pub carried : Carried packet
  pub reads : octets_of packet ≡ frame
  pub is : t ≡ with_packet packet s

-- only a frame in form is taken
abbrev pub Puts : List ℕ → Bool → Seen → Seen → Type 0
Puts frame true s t = Takes frame s t
Puts frame false s t = t ≡ s

-- the first pending packet is confirmed: it begins where the kept bytes end, and its sums are right
pub record Confirms (p : Packet) (ps : List Packet) (s t : Seen) : Type 0 where
  pub begins : p.offset ≡ length s.kept
  pub right : p.sums ≡ sums_of s.chunk p.bytes
  pub is : t ≡ record s { kept = s.kept ++ p.bytes; pending = ps }

-- an answer that passes with the first pending number confirms that packet; another changes nothing
abbrev pub Passes : Option ℕ → List Packet → Seen → Seen → Type 0
Passes None ps s t = t ≡ s
Passes (Some n) [] s t = t ≡ s
Passes (Some n) (p ∷ ps) s t = (n ≡ p.seqno → Confirms p ps s t) × ((n ≢ p.seqno) → t ≡ s)

abbrev pub Nexts : Came → Seen → Seen → Type 0
Nexts nothing s t = t ≡ s
Nexts lost s t = t ≡ s
Nexts (answer bs) s t = Passes (passes bs) s.pending s t
