-- What is read of a request that sets up a pipeline. Assumes nothing.
use Rattle.std.specs.Borrow.{Bor}
use Rattle.std.specs.Prelude.{ℕ, ◌-◌, if◌then◌else◌, ◌&&◌, List, length, drop, Some, None, Ok, Err, Option, Result, ◌==◌, nat_le, slice_index}
use Rattle.wire.specs.declared.field.DecodeError.{DecodeError}
use Rattle.wire.specs.declared.field.Fault.{Fault}
use Rattle.wire.specs.declared.field.Fault.TheVariants.{WireType}
use Rattle.wire.specs.Fields.{WireField, varint, fixed64, part, fixed32}
use Rattle.wire.specs.Find.{part_of, number_of}
use Rattle.wire.specs.Read.{varint_at, decoded}
use Rattle.request.specs.declared.setup.Setup.{Setup}

abbrev pub no_setup : Setup
no_setup = record { stage = 0; pipeline_size = 0; min_bytes = 0; max_bytes = 0; latest_stamp = 0; stamp = 0; checksum_type = 0; chunk_size = 0 }

-- 4 stage, 5 pipelineSize, 6 minBytesRcvd, 7 maxBytesRcvd, 8 latestGenerationStamp; 1 and 9 are parts
abbrev pub merge_number : Setup → ℕ → ℕ → Result Setup Fault
merge_number s tag n =
    if tag == 1 then Err WireType
    else (if tag == 4 then Ok (record s { stage = n })
    else (if tag == 5 then Ok (record s { pipeline_size = n })
    else (if tag == 6 then Ok (record s { min_bytes = n })
    else (if tag == 7 then Ok (record s { max_bytes = n })
    else (if tag == 8 then Ok (record s { latest_stamp = n })
    else (if tag == 9 then Err WireType else Ok s))))))

-- the generation stamp of the block in the header, which is the third number of the first part of the first part of it
abbrev pub stamp_in : List ℕ → ℕ
stamp_in header = number_of 3 (part_of 1 (part_of 1 header))

-- 1 header, 9 requestedChecksum with its type and the chunks' size
abbrev pub merge_part : Setup → ℕ → List ℕ → Result Setup Fault
merge_part s tag bs =
    if tag == 1 then Ok (record s { stamp = stamp_in bs })
    else (if tag == 4 then Err WireType
    else (if tag == 5 then Err WireType
    else (if tag == 6 then Err WireType
    else (if tag == 7 then Err WireType
    else (if tag == 8 then Err WireType
    else (if tag == 9 then Ok (record s { checksum_type = number_of 1 bs; chunk_size = number_of 2 bs }) else Ok s))))))

-- none of these fields has a fixed width
abbrev pub refuses : Setup → ℕ → Result Setup Fault
refuses s tag =
    if tag == 1 then Err WireType
    else (if tag == 4 then Err WireType
    else (if tag == 5 then Err WireType
    else (if tag == 6 then Err WireType
    else (if tag == 7 then Err WireType
    else (if tag == 8 then Err WireType
    else (if tag == 9 then Err WireType else Ok s))))))

abbrev pub merge_setup : Setup → WireField → Result Setup Fault
merge_setup s (varint tag n) = merge_number s tag n
merge_setup s (fixed64 tag n) = refuses s tag
merge_setup s (part tag bs) = merge_part s tag bs
merge_setup s (fixed32 tag n) = refuses s tag

-- version 28 in two octets, the code, a length, and a message that is just so long
abbrev pub measured : List ℕ → Result (ℕ × ℕ) Fault → Option (List ℕ)
measured bs (Ok x) = if x.0 == length bs - x.1 then Some (drop x.1 bs) else None
measured bs (Err e) = None

abbrev pub message_of : ℕ → List ℕ → Option (List ℕ)
message_of code bs =
    if nat_le 3 (length bs) && (slice_index bs 0 == 0 && (slice_index bs 1 == 28 && slice_index bs 2 == code))
    then measured bs (varint_at 3 bs)
    else None

abbrev pub seen_part : Option (Bor (List ℕ)) → Option (List ℕ)
seen_part (Some r) = Some r.now
seen_part None = None

abbrev pub well_read : Result Setup DecodeError → Option Setup
well_read (Ok s) = Some s
well_read (Err e) = None

abbrev pub setup_in : Option (List ℕ) → Option Setup
setup_in (Some bs) = well_read (decoded merge_setup no_setup bs)
setup_in None = None

unfoldable pub setup_of : List ℕ → Option Setup
setup_of bs = setup_in (message_of 80 bs)
