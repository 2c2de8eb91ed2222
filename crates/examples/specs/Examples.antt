-- Worked examples, of the definitions that the contracts of the code cite. Assumes nothing.
use Rattle.std.specs.Prelude.{◌≡◌, ℕ, ◌+◌, ◌-◌, ◌^◌, true, false, [], ◌∷◌, length, Ok, Err}
use Rattle.packet.specs.declared.size.settings.SizeError.TheVariants as error
use Rattle.packet.specs.Accepted.{settings_of}
use Rattle.packet.specs.Sizes.{capacity_of, first_capacity_of}
use Rattle.packet.specs.Sums.{sums_of}
use Rattle.packet.specs.Frame.{Packet, octets_of}
use Rattle.ack.specs.declared.tally.FailedNodes.{FailedNodes}
use Rattle.ack.specs.declared.ack.Verdict.TheVariants as verdict
use Rattle.ack.specs.Verdicts.{verdict_on}
use Rattle.replace.specs.declared.datanode.Policy.TheVariants as policy
use Rattle.replace.specs.Decision.{should_replace}
use Rattle.chain.specs.Acts.{answer}
use Rattle.sending.specs.Asking.{heard_in}
use Rattle.writer.specs.declared.heed.Decision.TheVariants as decision
use Rattle.writer.specs.declared.refusal.Refusal.TheVariants as refusal
use Rattle.writer.specs.Heeding.{on_heard}
use Rattle.writer.specs.Recovering.{left_of, needs_datanode}
use Rattle.writer.specs.Refusals.{number_of}
use Rattle.writer.specs.Views.{View}

-- a heartbeat: number -1, no data
abbrev pub heartbeat : Packet
heartbeat = record { offset = 0; seqno = 2 ^ 64 - 1; last = false; sums = sums_of 512 []; bytes = [] }

-- the datanode that the writer speaks to failed, and no other
abbrev pub first_failed : FailedNodes
first_failed = record { positions = true ∷ false ∷ false ∷ false ∷ false ∷ false ∷ false ∷ false ∷ []; count = 1; highest = 0 }

pub record Examples : Type 0 where
  -- by HDFS's default sizes a packet takes 126 chunks of 512 bytes
  pub default_sizes_accepted : settings_of 4 512 65_536 ≡ Ok (512, 65_536)
  pub default_capacity : capacity_of 4 512 65_536 ≡ 64_512
  -- 33 octets of header, and a chunk of 4 bytes with its sum of 4, are 41
  pub packet_of_40_refused : settings_of 4 4 40 ≡ Err error.Packet
  pub packet_of_41_accepted : settings_of 4 4 41 ≡ Ok (4, 41)
  pub packet_of_41_takes_one_chunk : capacity_of 4 4 41 ≡ 4
  pub open_packet_size_accepted : settings_of 4 512 0 ≡ Ok (512, 0)
  pub open_packet_size_takes_one_chunk : capacity_of 4 512 0 ≡ 512
  -- 10 bytes leave a chunk of 4 begun, and 2 bytes end it; any packet size
  pub first_packet_ends_the_begun_chunk : (p : ℕ) → first_capacity_of 4 4 p 10 ≡ 2
  pub second_packet_begins_at_a_chunk : (p : ℕ) → 10 + first_capacity_of 4 4 p 10 ≡ 12
  -- lengths 4 and 25; offset, number, whether the last, and data length, behind their keys 09, 11, 18 and 25
  pub heartbeat_frame : octets_of heartbeat
      ≡ 0 ∷ 0 ∷ 0 ∷ 4 ∷ 0 ∷ 0x19
      ∷ 0x09 ∷ 0 ∷ 0 ∷ 0 ∷ 0 ∷ 0 ∷ 0 ∷ 0 ∷ 0
      ∷ 0x11 ∷ 0xFF ∷ 0xFF ∷ 0xFF ∷ 0xFF ∷ 0xFF ∷ 0xFF ∷ 0xFF ∷ 0xFF
      ∷ 0x18 ∷ 0
      ∷ 0x25 ∷ 0 ∷ 0 ∷ 0 ∷ 0 ∷ []
  -- number 0 and one SUCCESS
  pub packet_0_passes : verdict_on (0x08 ∷ 0 ∷ 0x10 ∷ 0 ∷ []) ≡ Ok (verdict.Packet 0)
  -- a failed node counts whatever the answer's number is
  pub failure_before_unknown_number : verdict_on (0x08 ∷ 3 ∷ 0x10 ∷ 1 ∷ []) ≡ Ok (verdict.Failed first_failed)
  -- number -2 is written 3, and no reply is no failure
  pub unknown_number_passes : verdict_on (0x08 ∷ 3 ∷ []) ≡ Ok verdict.UnknownSeqno
  -- 14 is no status, so that the ERROR behind it is the first node's
  pub unknown_code_takes_no_position : verdict_on (0x08 ∷ 3 ∷ 0x10 ∷ 0x0E ∷ 0x10 ∷ 1 ∷ []) ≡ Ok (verdict.Failed first_failed)
  -- two of three datanodes are left: what the block had when it was opened decides, not what it has now
  pub new_block_goes_on_with_two_of_three : should_replace policy.Default 3 2 0 ≡ false
  pub appended_block_replaces_one_of_three : should_replace policy.Default 3 2 1 ≡ true
  -- so it is with the writer: an answer that passes with number -2 closes it, with number 9; and the bytes written since the opening count for nothing
  pub unknown_number_closes : (v : View) → on_heard v (heard_in (answer (0x08 ∷ 3 ∷ []))) ≡ decision.Close refusal.UnknownSeqno
  pub unknown_number_is_refusal_9 : number_of refusal.UnknownSeqno ≡ 9
  pub written_bytes_replace_none : (v : View) → v.terms.replace.policy ≡ policy.Default → v.terms.replication ≡ 3 → length (left_of v) ≡ 2 → v.terms.initial_len ≡ 0 → needs_datanode v ≡ false
