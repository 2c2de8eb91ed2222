-- Replicas by their bytes. Assumes nothing.
use Rattle.std.specs.Prelude.{ℕ, ◌+◌, Bool, List, map, vec_items, vec_len, vec_capacity, Vec, nat_le}
use Rattle.std.specs.declared.alloc.Global.{Global}
use Rattle.std.specs.List.{list_all}
use Rattle.std.specs.Str.{bytes_eq}

abbrev pub Bytes : Type 0
Bytes = Vec ℕ Global

abbrev pub copies : List Bytes → List (List ℕ)
copies vs = map vec_items vs

-- each has room for n bytes more
abbrev pub roomy : ℕ → List Bytes → Bool
roomy n vs = list_all (λ v. nat_le (vec_len v + n) (vec_capacity v)) vs

-- each is the same as some bytes
abbrev pub mirrored : List ℕ → List (List ℕ) → Bool
mirrored bs cs = list_all (λ c. bytes_eq c bs) cs
