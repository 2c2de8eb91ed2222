use Rattle.std.proofs.Common.{◌≡◌, ◌+◌, map, length, drop}
use Rattle.wire.specs.Fields.{encode_all}
use Rattle.wire.proofs.encode.EachMessage.encoded_len.Given as goal

abbrev pub invariant-loop-row : goal.invariant-loop-row
invariant-loop-row g l = l.size + length (encode_all (map g.F.FieldOf.field (drop l.row-index l.self.rows.now))) ≡ length (encode_all (map g.F.FieldOf.field l.self.rows.now))
