-- How long messages can be. Assumes nothing.
use Rattle.std.proofs.Common.{ℕ, ◌*◌, ◌≤◌, [], ◌∷◌, ◌++◌, map, length, refl, mul-le-mul_right, arith}
use Rattle.std.proofs.lemmas.List.{length-take}
use Rattle.wire.specs.Fields.{varint, part, varint_bytes, encode_all}
use Rattle.wire.proofs.Encoded.{join_length}
use Rattle.wire.proofs.Lengths.{number_bound, part_bound, all_length, none_length, rows_bound}
use Rattle.proto.specs.declared.fixed.Fixed.{Fixed}
use Rattle.proto.specs.declared.block.ClientOperationHeader.{ClientOperationHeader}
use Rattle.proto.specs.declared.block.ExtendedBlock.{ExtendedBlock}
use Rattle.proto.specs.declared.datanode.Datanode.{Datanode}
use Rattle.request.specs.declared.parts.Construction.{Construction}
use Rattle.request.specs.declared.parts.Storages.{Storages}
use Rattle.request.specs.declared.transfer_block.TransferBlock.{TransferBlock}
use Rattle.request.specs.declared.write_block.WriteBlock.{WriteBlock}
use Rattle.proto.specs.Messages.{octets_in, info_of, block_fields, header_fields}
use Rattle.request.specs.Requests.{checksum_fields, construction_fields, construction_of, storage_fields, write_fields, transfer_fields}
use Rattle.request.specs.Stages.{stage_number}

pub held_bound : {n : ℕ} (f : Fixed n) → length (octets_in f) ≤ n
held_bound f = omega (arith, length-take f.len f.octets, f.within)

pub block_bound : (b : ExtendedBlock) → length (encode_all (block_fields b)) ≤ 100
unfolding varint_bytes
block_bound b =
    let i = b.block_id in
    let g = b.generation_stamp in
    let n = b.num_bytes in
    let p = octets_in b.pool_id in
    omega (
      arith,
      all_length (part 1 p) (varint 2 i ∷ varint 3 g ∷ varint 4 n ∷ []),
      all_length (varint 2 i) (varint 3 g ∷ varint 4 n ∷ []),
      all_length (varint 3 g) (varint 4 n ∷ []),
      all_length (varint 4 n) [],
      none_length,
      part_bound 1 1 64 p refl (held_bound b.pool_id) (omega arith),
      number_bound 2 1 i refl,
      number_bound 3 1 g refl,
      number_bound 4 1 n refl,
    )

pub header_bound : (h : ClientOperationHeader) → length (encode_all (header_fields h)) ≤ 1200
unfolding varint_bytes
header_bound h =
    let k = encode_all (block_fields h.block) in
    let t = octets_in h.token.now.message in
    let u = octets_in h.client_name.now in
    let b = encode_all (part 1 k ∷ part 2 t ∷ []) in
    let inner : length b ≤ 1130 = omega (
      arith,
      all_length (part 1 k) (part 2 t ∷ []),
      all_length (part 2 t) [],
      none_length,
      part_bound 1 1 100 k refl (block_bound h.block) (omega arith),
      part_bound 2 1 1024 t refl (held_bound h.token.now.message) (omega arith),
    ) in
    omega (
      arith,
      all_length (part 1 b) (part 2 u ∷ []),
      all_length (part 2 u) [],
      none_length,
      part_bound 1 1 1130 b refl inner (omega arith),
      part_bound 2 1 64 u refl (held_bound h.client_name.now) (omega arith),
    )

pub transfer_bound : (t : TransferBlock) → length (encode_all (transfer_fields t)) ≤ 3728
unfolding varint_bytes
transfer_bound t =
    let h = encode_all (header_fields t.header) in
    let i = info_of t.target.now in
    let n = t.target.now.storage_type in
    omega (
      arith,
      all_length (part 1 h) (part 2 i ∷ varint 3 n ∷ []),
      all_length (part 2 i) (varint 3 n ∷ []),
      all_length (varint 3 n) [],
      none_length,
      part_bound 1 1 1200 h refl (header_bound t.header) (omega arith),
      part_bound 2 1 256 i refl (held_bound t.target.now.info) (omega arith),
      number_bound 3 1 n refl,
    )

construction_bound : (c : Construction) → length (encode_all (construction_fields c)) ≤ 55
unfolding varint_bytes
construction_bound c =
    let a = stage_number c.stage in
    let p = c.pipeline_size in
    let n = c.min_bytes in
    let m = c.max_bytes in
    let s = c.latest_stamp in
    omega (
      arith,
      all_length (varint 4 a) (varint 5 p ∷ varint 6 n ∷ varint 7 m ∷ varint 8 s ∷ []),
      all_length (varint 5 p) (varint 6 n ∷ varint 7 m ∷ varint 8 s ∷ []),
      all_length (varint 6 n) (varint 7 m ∷ varint 8 s ∷ []),
      all_length (varint 7 m) (varint 8 s ∷ []),
      all_length (varint 8 s) [],
      none_length,
      number_bound 4 1 a refl,
      number_bound 5 1 p refl,
      number_bound 6 1 n refl,
      number_bound 7 1 m refl,
      number_bound 8 1 s refl,
    )

pub checksum_bound : (n : ℕ) → length (encode_all (checksum_fields n)) ≤ 22
unfolding varint_bytes
checksum_bound n = omega (arith, all_length (varint 1 2) (varint 2 n ∷ []), all_length (varint 2 n) [], none_length, number_bound 1 1 2 refl, number_bound 2 1 n refl)

seven : (n m k : ℕ) → n ≤ 7 → k ≤ n * m → k ≤ 7 * m
seven n m k h l = omega (arith, mul-le-mul_right {m = n} {n = 7} m h)

storage_bound : (s : Storages) → length s.targets.now ≤ 7 → length (encode_all (storage_fields s)) ≤ 632
unfolding varint_bytes
storage_bound s few =
    let n = s.first.now.storage_type in
    let i = octets_in s.first.now.storage_id in
    let ts = s.targets.now in
    let types = map (λ (d : Datanode). varint 12 d.storage_type) ts in
    let ids = map (λ (d : Datanode). part 17 (octets_in d.storage_id)) ts in
    omega (
      arith,
      all_length (varint 11 n) (types ++ (part 16 i ∷ ids)),
      join_length types (part 16 i ∷ ids),
      all_length (part 16 i) ids,
      number_bound 11 1 n refl,
      part_bound 16 2 64 i refl (held_bound s.first.now.storage_id) (omega arith),
      seven (length ts) 11 (length (encode_all types)) few (rows_bound (λ (d : Datanode). varint 12 d.storage_type) 11 (λ d. number_bound 12 1 d.storage_type refl) ts),
      seven (length ts) 68 (length (encode_all ids)) few (rows_bound (λ (d : Datanode). part 17 (octets_in d.storage_id)) 68 (λ d. part_bound 17 2 64 (octets_in d.storage_id) refl (held_bound d.storage_id) (omega arith)) ts),
    )

pub write_bound : (w : WriteBlock) → length w.targets.now ≤ 7 → length (encode_all (write_fields w)) ≤ 3728
unfolding varint_bytes
write_bound w few =
    let h = encode_all (header_fields w.header) in
    let ts = w.targets.now in
    let infos = map (λ (d : Datanode). part 2 (info_of d)) ts in
    let c = construction_fields (construction_of w) in
    let k = encode_all (checksum_fields w.chunk_size) in
    let s = storage_fields (record { first = w.first; targets = w.targets }) in
    omega (
      arith,
      all_length (part 1 h) (infos ++ (c ++ (part 9 k ∷ s))),
      join_length infos (c ++ (part 9 k ∷ s)),
      join_length c (part 9 k ∷ s),
      all_length (part 9 k) s,
      part_bound 1 1 1200 h refl (header_bound w.header) (omega arith),
      seven (length ts) 259 (length (encode_all infos)) few (rows_bound (λ (d : Datanode). part 2 (info_of d)) 259 (λ d. part_bound 2 1 256 (info_of d) refl (held_bound d.info) (omega arith)) ts),
      construction_bound (construction_of w),
      part_bound 9 1 22 k refl (checksum_bound w.chunk_size) (omega arith),
      storage_bound (record { first = w.first; targets = w.targets }) few,
    )
