-- The packets of a block: packet k has the bytes from k times the capacity on. Assumes nothing.
use Rattle.std.specs.Prelude.{ℕ, zero, suc, ◌+◌, ◌*◌, ◌/◌, ◌%◌, cond, List, [], ◌++◌, take, drop, ◌==◌}

-- n bytes are so many packets of c bytes, with one for a shorter rest; none where the capacity is 0
abbrev pub packet_count : ℕ → ℕ → ℕ
packet_count c n = cond (c == 0) 0 (n / c + cond (n % c == 0) 0 1)

-- the c bytes from k * c on, or what there is of them
abbrev pub packet_at : ℕ → List ℕ → ℕ → List ℕ
packet_at c bs k = take c (drop (k * c) bs)

-- the data of the first n packets, one after another
abbrev pub packets_joined : ℕ → ℕ → List ℕ → List ℕ
packets_joined c zero bs = []
packets_joined c (suc n) bs = packets_joined c n bs ++ packet_at c bs n
