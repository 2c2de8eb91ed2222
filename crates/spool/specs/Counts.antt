-- How many bytes some pending packets have, and that their numbers have 64 bits. Assumes nothing.
use Rattle.std.specs.Prelude.{ℕ, ◌+◌, ◌^◌, Bool, true, ◌&&◌, List, [], ◌∷◌, nat_lt}
use Rattle.spool.specs.declared.pending.Pending.{Pending}

abbrev pub total : List Pending → ℕ
total [] = 0
total (p ∷ ps) = p.len + total ps

abbrev pub numbered : List Pending → Bool
numbered [] = true
numbered (p ∷ ps) = nat_lt p.seqno (2 ^ 64) && numbered ps
