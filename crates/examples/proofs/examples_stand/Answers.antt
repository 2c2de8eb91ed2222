-- Each example is computed by the definitions.
-- Assumes nothing.
use Rattle.std.proofs.Common.{refl}
use Rattle.wire.specs.Fields.{varint_bytes, prefix, encode, encode_all}
use Rattle.wire.specs.Read.{varint_at, read_field, decoded}
use Rattle.packet.specs.Frame.{lengths, octets_of}
use Rattle.packet.specs.Header.{header_octets}
use Rattle.packet.specs.Sums.{chunk_count, sums_of}
use Rattle.ack.specs.Acks.{ack_of}
use Rattle.ack.specs.Failures.{failed_nodes}
use Rattle.ack.specs.Verdicts.{verdict_on}
use Rattle.examples.proofs.examples_stand.Goals as goal

pub returns : goal.returns
unfolding varint_bytes prefix encode encode_all varint_at read_field decoded lengths octets_of header_octets chunk_count sums_of ack_of failed_nodes verdict_on
returns c = record {
  default_sizes_accepted = refl;
  default_capacity = refl;
  packet_of_40_refused = refl;
  packet_of_41_accepted = refl;
  packet_of_41_takes_one_chunk = refl;
  open_packet_size_accepted = refl;
  open_packet_size_takes_one_chunk = refl;
  first_packet_ends_the_begun_chunk = λ p. refl;
  second_packet_begins_at_a_chunk = λ p. refl;
  heartbeat_frame = refl;
  packet_0_passes = refl;
  failure_before_unknown_number = refl;
  unknown_number_passes = refl;
  unknown_code_takes_no_position = refl;
  new_block_goes_on_with_two_of_three = refl;
  appended_block_replaces_one_of_three = refl;
  unknown_number_closes = λ v. refl;
  unknown_number_is_refusal_9 = refl;
  written_bytes_replace_none = λ v policy r left initial. rw (policy, r, left, initial) refl;
}
