-- What has happened to a block since it was opened, as its user and its pipeline saw it. Assumes nothing.
use Rattle.std.specs.Prelude.{ℕ, if◌then◌else◌, List, [], ◌∷◌, ◌++◌, length, take, Some, None, Ok, Err, Option, Result, ◌==◌}
use Rattle.packet.specs.Frame.{Packet}
use Rattle.proto.specs.declared.datanode.Datanode.{Datanode}
use Rattle.writer.specs.declared.heed.Heeded.{Heeded}
use Rattle.writer.specs.declared.heed.Heeded.TheVariants as heeded
use Rattle.writer.specs.declared.refusal.Refusal.{Refusal}
use Rattle.writer.specs.declared.write.Written.{Written}

-- the bytes that the block had at its opening, and those that writes have counted since, joined; the packets that left
-- the pipeline's pending ones by a passing answer, in that order; the numbers that heed answered as confirmed or
-- complete; the datanodes that a set up last got a response for
pub record History : Type 0 where
  pub initial : List ℕ
  pub accepted : List ℕ
  pub confirmed : List Packet
  pub answered : List ℕ
  pub chain : List Datanode

abbrev pub begun : List ℕ → List Datanode → History
begun bytes nodes =
    record { initial = bytes; accepted = []; confirmed = []; answered = []; chain = nodes }

-- a write counts the bytes that it took, which are the first ones
abbrev pub wrote : History → List ℕ → Result Written Refusal → History
wrote h bytes (Ok w) = record h { accepted = h.accepted ++ take w.taken bytes }
wrote h bytes (Err e) = h

-- the packet that left those pending, where one did
abbrev pub dropped : List Packet → List Packet → List Packet
dropped [] after = []
dropped (p ∷ before) after = if length after == length before then p ∷ [] else []

abbrev pub numbers : Result Heeded Refusal → List ℕ
numbers (Ok heeded.Nothing) = []
numbers (Ok heeded.HeartBeat) = []
numbers (Ok (heeded.Confirmed n)) = n ∷ []
numbers (Ok (heeded.Complete n)) = n ∷ []
numbers (Ok (heeded.Broken cause)) = []
numbers (Err e) = []

abbrev pub heard : History → List Packet → List Packet → Result Heeded Refusal → History
heard h before after r =
    record h { confirmed = h.confirmed ++ dropped before after; answered = h.answered ++ numbers r }

-- a set up that was answered makes a new pipeline
abbrev pub rebuilt : History → Option (List Datanode) → History
rebuilt h (Some nodes) = record h { chain = nodes }
rebuilt h None = h
