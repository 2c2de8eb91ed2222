-- A pipeline's datanodes after a failure, by the positions that they had. Assumes nothing.
use Rattle.std.specs.Prelude.{Bool, cond, List, [], ◌∷◌}
use Rattle.proto.specs.declared.datanode.Datanode.{Datanode}

-- those whose position did not fail; a position past the flags did not
abbrev pub survivors : List Bool → List Datanode → List Datanode
survivors [] nodes = nodes
survivors (f ∷ flags) [] = []
survivors (f ∷ flags) (n ∷ nodes) = cond f (survivors flags nodes) (n ∷ survivors flags nodes)

-- those whose position failed
abbrev pub failed_of : List Bool → List Datanode → List Datanode
failed_of [] nodes = []
failed_of (f ∷ flags) [] = []
failed_of (f ∷ flags) (n ∷ nodes) = cond f (n ∷ failed_of flags nodes) (failed_of flags nodes)
