-- The messages of datatransfer.proto and hdfs.proto that the writer sends, as their fields. Assumes nothing.
use Rattle.std.specs.Prelude.{ℕ, List, [], ◌∷◌, take}
use Rattle.wire.specs.Find.{part_of, number_of}
use Rattle.wire.specs.Fields.{WireField, varint, part, encode_all}
use Rattle.proto.specs.declared.block.ClientOperationHeader.{ClientOperationHeader}
use Rattle.proto.specs.declared.block.ExtendedBlock.{ExtendedBlock}
use Rattle.proto.specs.declared.datanode.Datanode.{Datanode}
use Rattle.proto.specs.declared.fixed.Fixed.{Fixed}

-- the octets that a fixed memory holds
abbrev pub octets_in : {n : ℕ} → Fixed n → List ℕ
octets_in f = take f.len f.octets

-- what a datanode's message says of it
abbrev pub info_of : Datanode → List ℕ
info_of d = octets_in d.info

abbrev pub id_of : Datanode → List ℕ
id_of d = part_of 1 (info_of d)

abbrev pub ip_of : Datanode → List ℕ
ip_of d = part_of 1 (id_of d)

abbrev pub port_of : Datanode → ℕ
port_of d = number_of 4 (id_of d)

-- ExtendedBlockProto: poolId, blockId, generationStamp, numBytes
abbrev pub block_fields : ExtendedBlock → List WireField
block_fields b = part 1 (octets_in b.pool_id) ∷ varint 2 b.block_id ∷ varint 3 b.generation_stamp ∷ varint 4 b.num_bytes ∷ []

-- ClientOperationHeaderProto: a BaseHeaderProto of the block and the token, and the client's name
abbrev pub header_fields : ClientOperationHeader → List WireField
header_fields h =
    part 1 (encode_all (part 1 (encode_all (block_fields h.block)) ∷ part 2 (octets_in h.token.now.message) ∷ []))
    ∷ part 2 (octets_in h.client_name.now) ∷ []
