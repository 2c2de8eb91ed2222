-- The datanode that replaces a failed one, and its source, as positions of a list. Assumes nothing.
use Rattle.std.specs.Prelude.{ℕ, ◌+◌, ◌-◌, Bool, cond, ◌&&◌, List, [], ◌∷◌, length, Some, None, Ok, Err, Option, Result, ◌==◌, nat_lt}
use Rattle.std.specs.List.{list_any}
use Rattle.std.specs.Str.{bytes_eq}
use Rattle.proto.specs.declared.datanode.Datanode.{Datanode}
use Rattle.proto.specs.Messages.{ip_of, port_of}
use Rattle.replace.specs.declared.choice.NoChoice.{NoChoice}
use Rattle.replace.specs.declared.choice.NoChoice.TheVariants.{NewNode, Source}

-- the same ip and the same port
abbrev pub same_address : Datanode → Datanode → Bool
same_address a b = port_of a == port_of b && bytes_eq (ip_of a) (ip_of b)

-- one of os is the same as n
abbrev pub any_same : List Datanode → Datanode → Bool
any_same os n = list_any (λ o. same_address o n) os

-- the position of the first of ns, counted from i, that is none of os
abbrev pub first_new : ℕ → List Datanode → List Datanode → Option ℕ
first_new i [] os = None
first_new i (n ∷ ns) os = cond (any_same os n) (first_new (i + 1) ns os) (Some i)

-- the source stands before the new one, or at position 1 where the new one is first
abbrev pub with_source : ℕ → Option ℕ → Result (ℕ × ℕ) NoChoice
with_source size None = Err NewNode
with_source size (Some i) = cond (nat_lt 0 i) (Ok (i, i - 1)) (cond (nat_lt 1 size) (Ok (i, 1)) (Err Source))

abbrev pub choice_of : List Datanode → List Datanode → Result (ℕ × ℕ) NoChoice
choice_of ns os = with_source (length ns) (first_new 0 ns os)
