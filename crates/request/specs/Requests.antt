-- The requests of datatransfer.proto, as their fields, and what stands before them on the wire. Assumes nothing.
use Rattle.std.specs.Prelude.{◌≡◌, ℕ, ◌+◌, ◌<◌, ◌≤◌, List, [], ◌∷◌, ◌++◌, map, length, drop, Some, None, Option}
use Rattle.wire.specs.Octets.{big}
use Rattle.wire.specs.Fields.{WireField, varint, part, varint_bytes, encode_all}
use Rattle.request.specs.declared.parts.Construction.{Construction}
use Rattle.request.specs.declared.parts.Storages.{Storages}
use Rattle.request.specs.declared.transfer_block.TransferBlock.{TransferBlock}
use Rattle.request.specs.declared.write_block.WriteBlock.{WriteBlock}
use Rattle.proto.specs.Messages.{octets_in, info_of, header_fields}
use Rattle.request.specs.Stages.{stage_number}

-- ChecksumProto: CRC-32C is type 2, over chunks of so many bytes
abbrev pub checksum_fields : ℕ → List WireField
checksum_fields size = varint 1 2 ∷ varint 2 size ∷ []

-- stage, pipelineSize, minBytesRcvd, maxBytesRcvd, latestGenerationStamp
abbrev pub construction_fields : Construction → List WireField
construction_fields c =
    varint 4 (stage_number c.stage) ∷ varint 5 c.pipeline_size ∷ varint 6 c.min_bytes ∷ varint 7 c.max_bytes ∷ varint 8 c.latest_stamp ∷ []

abbrev pub construction_of : WriteBlock → Construction
construction_of w = record {
  stage = w.stage;
  pipeline_size = length w.targets.now + 1;
  min_bytes = w.min_bytes;
  max_bytes = w.max_bytes;
  latest_stamp = w.latest_stamp;
}

-- storageType, targetStorageTypes, storageId, targetStorageIds
abbrev pub storage_fields : Storages → List WireField
storage_fields s =
    varint 11 s.first.now.storage_type
    ∷ (map (λ d. varint 12 d.storage_type) s.targets.now
    ++ (part 16 (octets_in s.first.now.storage_id) ∷ map (λ d. part 17 (octets_in d.storage_id)) s.targets.now))

-- OpWriteBlockProto: header, targets, the five numbers, requestedChecksum, the storages
abbrev pub write_fields : WriteBlock → List WireField
write_fields w =
    part 1 (encode_all (header_fields w.header))
    ∷ (map (λ d. part 2 (info_of d)) w.targets.now
    ++ (construction_fields (construction_of w)
    ++ (part 9 (encode_all (checksum_fields w.chunk_size)) ∷ storage_fields (record { first = w.first; targets = w.targets }))))

-- OpTransferBlockProto: header, targets, targetStorageTypes
abbrev pub transfer_fields : TransferBlock → List WireField
transfer_fields t =
    part 1 (encode_all (header_fields t.header)) ∷ part 2 (info_of t.target.now) ∷ varint 3 t.target.now.storage_type ∷ []

-- version 28, the operation's code, and the message after its length
abbrev pub framed : ℕ → List ℕ → List ℕ
framed code message = big 2 28 ++ (code ∷ (varint_bytes (length message) ++ message))

-- what is at the front of a buffer after a write that answers how long it is, or that did not fit
abbrev pub sent : List ℕ → List ℕ → List ℕ → Option ℕ → Type 0
sent bs before after (Some n) = (n ≡ length bs) × (n ≤ length before) × (after ≡ bs ++ drop n before)
sent bs before after None = (length before < length bs) × (after ≡ before)
