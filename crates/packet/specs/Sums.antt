-- The sums of a packet: its data in chunks, and a CRC-32C for each. Assumes nothing.
use Rattle.std.specs.Prelude.{ℕ, ◌+◌, ◌*◌, ◌/◌, ◌%◌, cond, List, map, length, take, drop, ◌==◌}
use Rattle.std.specs.List.{range_with_len, flat_map}
use Rattle.crc.specs.Crc.{sum_of}
use Rattle.wire.specs.Octets.{big}

-- n bytes are so many chunks of c bytes, with one for a shorter rest; none where the chunk size is 0
unfoldable pub chunk_count : ℕ → ℕ → ℕ
chunk_count c n = cond (c == 0) 0 (n / c + cond (n % c == 0) 0 1)

-- chunk k has the c bytes from k * c on, or what there is of them
abbrev pub chunk_at : ℕ → List ℕ → ℕ → List ℕ
chunk_at c bytes k = take c (drop (k * c) bytes)

abbrev pub first_chunks : ℕ → List ℕ → ℕ → List (List ℕ)
first_chunks c bytes n = map (chunk_at c bytes) (range_with_len 0 n)

abbrev pub chunks_in : ℕ → List ℕ → List (List ℕ)
chunks_in c bytes = first_chunks c bytes (chunk_count c (length bytes))

-- a CRC-32C, its highest octet first
unfoldable pub sum_octets : List ℕ → List ℕ
sum_octets chunk = big 4 (sum_of 0x82F63B78 chunk)

-- the sums of all chunks, one after another
unfoldable pub sums_of : ℕ → List ℕ → List ℕ
sums_of c bytes = flat_map sum_octets (chunks_in c bytes)
