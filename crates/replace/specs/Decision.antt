-- When a failed datanode is replaced. Assumes nothing.
use Rattle.std.specs.Prelude.{ℕ, ◌/◌, Bool, true, false, ◌&&◌, ◌||◌, nat_le, nat_lt}
use Rattle.replace.specs.declared.datanode.Policy.{Policy}
use Rattle.replace.specs.declared.datanode.Policy.TheVariants.{Disable, Never, Default, Always}

-- where n datanodes are left, fewer than the replication r, and the block was opened with l bytes
abbrev pub asks_for : Policy → ℕ → ℕ → ℕ → Bool
asks_for Disable r n l = false
asks_for Never r n l = false
asks_for Default r n l = nat_le 3 r && (nat_le n (r / 2) || nat_lt 0 l)
asks_for Always r n l = true

-- nothing is replaced where none is missing, nor where none is left
abbrev pub should_replace : Policy → ℕ → ℕ → ℕ → Bool
should_replace p r n l = (nat_lt 0 n && nat_lt n r) && asks_for p r n l
