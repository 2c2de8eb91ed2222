-- The numbers of datanodes have the width of their type. Assumes nothing.
use Rattle.std.proofs.Common.{◌^◌, ◌<◌, List, [], ◌∷◌, arith}
use Rattle.std.specs.List.{AllByRecursion}
use Rattle.proto.specs.declared.datanode.Datanode.{Datanode}

pub type_width : (d : Datanode) → d.storage_type < 2 ^ 8
type_width d = omega (arith, d.typed)

pub type_widths : (ds : List Datanode) → AllByRecursion (λ (d : Datanode). d.storage_type < 2 ^ 8) ds
type_widths [] = tt
type_widths (d ∷ ds) = (type_width d, type_widths ds)
