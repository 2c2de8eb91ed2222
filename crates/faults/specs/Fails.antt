-- What a failing datanode makes of an answer. Assumes nothing.
use Rattle.std.specs.Prelude.{◌≡◌, ℕ, ◌+◌, ◌-◌, ◌^◌, min, Bool, true, false, if◌then◌else◌, ◌&&◌, ◌⊎◌, List, None, Some, Option, ◌==◌, nat_le}
use Rattle.ack.specs.Verdicts.{passes}
use Rattle.packet.specs.Frame.{Packet}
use Rattle.packet.specs.Reading.{Reads}
use Rattle.chain.specs.Acts.{Came, nothing, lost, answer}
use Rattle.chain.specs.declared.link.Link as Link
use Rattle.faults.specs.declared.failing_node.Failure.{Failure}
use Rattle.faults.specs.declared.failing_node.Failure.TheVariants as failure
use Rattle.faults.specs.declared.failing_node.FailingNode.{FailingNode}

-- an answer that does not pass, or none for which there was room
abbrev pub Refuses : Came → Type 0
Refuses nothing = ⊥
Refuses lost = Unit {0}
Refuses (answer message) = passes message ≡ None

-- it is the turn of the packet at which the datanode fails
abbrev pub is_due : Failure → Bool
is_due failure.Ahead = false
is_due failure.Due = true
is_due failure.Past = false

abbrev pub due : {C : Type 0} → FailingNode C → Bool
due a = is_due a.failure && nat_le a.packet a.answered

-- the failure is due when the packet has been put, and past when it came
abbrev pub numbered : Option Packet → ℕ → Bool
numbered None n = false
numbered (Some p) n = p.seqno == n

abbrev pub once_put : Failure → Bool → Failure
once_put failure.Ahead here = if here then failure.Due else failure.Ahead
once_put failure.Due here = failure.Due
once_put failure.Past here = failure.Past

abbrev pub changed : {C : Type 0} → FailingNode C → C → Failure → ℕ → FailingNode C
changed a inner failure answered = record a { inner = inner; failure = failure; answered = answered }

-- the pipeline's own act; where the frame was taken, it may be that of the packet
abbrev pub Turns : {C : Type 0} → FailingNode C → List ℕ → Bool → FailingNode C → Type 0
Turns a frame true b =
    (p : Option Packet) × (Reads frame p × (b ≡ changed a b.inner (once_put a.failure (numbered p a.packet)) a.answered))
Turns a frame false b = b ≡ changed a b.inner a.failure a.answered

abbrev pub Puts : {C : Type 0} → Link.Ghosts C → FailingNode C → List ℕ → Bool → FailingNode C → Type 0
Puts acts a frame taken b = acts.puts a.inner frame taken b.inner × Turns a frame taken b

-- how many answers there were, as far as they are counted
abbrev pub counted : ℕ → Came → ℕ
counted n nothing = n
counted n lost = n
counted n (answer message) = min (n + 1) (2 ^ 64 - 1)

-- the pipeline's own act; or, in that turn and in no other, an answer that it has no part in
abbrev pub Nexts : {C : Type 0} → Link.Ghosts C → FailingNode C → Came → FailingNode C → Type 0
Nexts acts a came b =
    (acts.nexts a.inner came b.inner × (due a ≡ false) × (b ≡ changed a b.inner a.failure (counted a.answered came)))
    ⊎ (Refuses came × (due a ≡ true) × (b ≡ changed a a.inner failure.Past a.answered))
