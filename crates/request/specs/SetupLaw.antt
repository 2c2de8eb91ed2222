-- A request that sets up a pipeline is read as it was meant. Assumes nothing.
use Rattle.std.specs.Prelude.{◌≡◌, ◌+◌, ◌^◌, ◌<◌, length, Some}
use Rattle.std.specs.List.{AllByRecursion}
use Rattle.wire.specs.Fields.{encode_all}
use Rattle.proto.specs.declared.datanode.Datanode.{Datanode}
use Rattle.request.specs.declared.setup.Setup.{Setup}
use Rattle.request.specs.declared.write_block.WriteBlock.{WriteBlock}
use Rattle.request.specs.Requests.{write_fields, framed}
use Rattle.request.specs.Setups.{setup_of}
use Rattle.request.specs.Stages.{stage_number}

-- what the far end reads: the request's numbers, how many datanodes there are, the block's own stamp, and CRC-32C
abbrev pub setup_for : WriteBlock → Setup
setup_for w = record {
  stage = stage_number w.stage;
  pipeline_size = length w.targets.now + 1;
  min_bytes = w.min_bytes;
  max_bytes = w.max_bytes;
  latest_stamp = w.latest_stamp;
  stamp = w.header.block.generation_stamp;
  checksum_type = 2;
  chunk_size = w.chunk_size;
}

-- the numbers have the widths of their types
pub record Widths (w : WriteBlock) : Type 0 where
  pub id : w.header.block.block_id < 2 ^ 64
  pub stamp : w.header.block.generation_stamp < 2 ^ 64
  pub bytes : w.header.block.num_bytes < 2 ^ 64
  pub least : w.min_bytes < 2 ^ 64
  pub most : w.max_bytes < 2 ^ 64
  pub latest : w.latest_stamp < 2 ^ 64
  pub chunk : w.chunk_size < 2 ^ 32
  pub first : w.first.now.storage_type < 2 ^ 8
  pub others : AllByRecursion (λ (d : Datanode). d.storage_type < 2 ^ 8) w.targets.now

-- every request, as it is sent with code 80, is read as what it asks for
abbrev pub RequestsReadBack : Type 0
RequestsReadBack = (w : WriteBlock) → Widths w → setup_of (framed 80 (encode_all (write_fields w))) ≡ Some (setup_for w)
