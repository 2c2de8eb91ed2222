-- A record changed, seen as the list of sizes. Assumes nothing.
use Rattle.std.proofs.Common.{◌≡◌, ℕ, zero, suc, List, [], ◌∷◌, length, set, refl, ap}
use Rattle.held.specs.declared.table.HeldPacket.{HeldPacket}
use Rattle.held.specs.Slots.{sizes_of}

pub sizes_set : (rs : List HeldPacket) (i n : ℕ) → sizes_of (set rs i (record { len = n })) ≡ set (sizes_of rs) i n
sizes_set [] i n = refl
sizes_set (r ∷ rs) zero n = refl
sizes_set (r ∷ rs) (suc i) n = ap (λ (z : List ℕ). r.len ∷ z) (sizes_set rs i n)

pub sizes_long : (rs : List HeldPacket) → length (sizes_of rs) ≡ length rs
sizes_long [] = refl
sizes_long (r ∷ rs) = ap suc (sizes_long rs)
