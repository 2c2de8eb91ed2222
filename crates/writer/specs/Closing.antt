-- The record that a complete block is closed with. Assumes nothing.
use Rattle.std.specs.Prelude.{Ok, Err, Result}
use Rattle.proto.specs.declared.block.ExtendedBlock.{ExtendedBlock}
use Rattle.writer.specs.declared.refusal.Refusal.{Refusal}
use Rattle.writer.specs.declared.refusal.Refusal.TheVariants as refusal
use Rattle.writer.specs.declared.state.kind.State.{State}
use Rattle.writer.specs.declared.state.kind.State.TheVariants.{Streaming, Finishing, Broken, Complete, Closed}
use Rattle.writer.specs.Views.{View}

-- pool, id, stamp and length
abbrev pub record_of : View → ExtendedBlock
record_of v =
    record {
      pool_id = v.terms.pool_id;
      block_id = v.terms.block_id;
      generation_stamp = v.stamp;
      num_bytes = v.len;
    }

abbrev pub closes_in : State → View → Result ExtendedBlock Refusal
closes_in Complete v = Ok (record_of v)
closes_in Streaming v = Err (refusal.Incomplete v.count)
closes_in Finishing v = Err (refusal.Incomplete v.count)
closes_in (Broken cause finished) v = Err (refusal.Incomplete v.count)
closes_in Closed v = Err (refusal.Incomplete v.count)

abbrev pub closed : View → Result ExtendedBlock Refusal
closed v = closes_in v.state v
