use Rattle.std.proofs.Common.{◌≡◌, ◌+◌, map, length, take, drop}
use Rattle.wire.specs.Fields.{encode_all}
use Rattle.wire.proofs.Front.{Front}
use Rattle.wire.proofs.encode.EachMessage.encode.Given as goal

abbrev pub invariant-loop-row : goal.invariant-loop-row
invariant-loop-row g l =
    Front l.initial.out l.at (encode_all (map g.F.FieldOf.field (take l.row-index l.self.rows.now))) l.out
    × (l.at + length (encode_all (map g.F.FieldOf.field (drop l.row-index l.self.rows.now))) ≡ length l.initial.out)
