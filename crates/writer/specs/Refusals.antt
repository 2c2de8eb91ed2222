-- The numbers of refusals, and which of two counts. Assumes nothing.
use Rattle.std.specs.Prelude.{ℕ, Some, None, Option}
use Rattle.writer.specs.declared.refusal.Refusal.{Refusal}
use Rattle.writer.specs.declared.refusal.Refusal.TheVariants as refusal

-- from what is handed in, from a recovery, and from the writer's state
abbrev pub number_of : Refusal → ℕ
number_of refusal.ChunkSize = 1
number_of refusal.PacketSize = 2
number_of refusal.Length = 3
number_of refusal.Nodes = 4
number_of refusal.Form = 5
number_of refusal.Store = 6
number_of refusal.Buffer = 7
number_of (refusal.SetUp r) = 8
number_of refusal.UnknownSeqno = 9
number_of refusal.Unexpected = 10
number_of refusal.AllFailed = 11
number_of refusal.PastPipeline = 12
number_of (refusal.Replacement r) = 13
number_of refusal.Stamp = 14
number_of (refusal.Recovery r) = 15
number_of refusal.Update = 16
number_of refusal.Closed = 21
number_of refusal.Broken = 22
number_of refusal.Finished = 23
number_of refusal.Complete = 24
number_of refusal.Whole = 25
number_of refusal.Places = 26
number_of (refusal.Incomplete n) = 27

-- the first of two that there is
abbrev pub or_else : Option Refusal → Option Refusal → Option Refusal
or_else (Some r) s = Some r
or_else None s = s
