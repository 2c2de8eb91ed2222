use Rattle.std.proofs.Common.{◌&&◌, sym, ap, ◌∙◌}
use Rattle.std.proofs.lemmas.Bool.{le-leb, lt-leb, and_left, and_right, both_ways}
use Rattle.wire.specs.Find.{part_of}
use Rattle.proto.specs.Form.{form_of}
use Rattle.proto.specs.Rules.{is_datanode, datanode_info, datanode_id}
use Rattle.proto.proofs.datanode.is_datanode.Goals as goal
use Rattle.proto.proofs.datanode.is_datanode.Goals.{then-info-le256, else-info-le256}

pub returns-then-conforms : goal.returns-then-conforms
unfolding is_datanode datanode_info datanode_id
returns-then-conforms c =
    let bs = c.args.info.now in
    let d = c.conforms-then-conforms.ensures ∙ ap (form_of datanode_id) c.find.ensures in
    elim c.if-info-le256.branch [
      | then-info-le256 w ↦
          let a = le-leb _ _ w.if-info-le256.true in
          let b = sym w.conforms.ensures ∙ sym w.value-is ∙ c.if-conforms.true in
          d ∙ sym (λ i. a i && (b i && form_of datanode_id (part_of 1 bs)))
      | else-info-le256 w ↦ absurd (both_ways _ (w.value-is ∙ lt-leb _ _ w.if-info-le256.false) c.if-conforms.true)
    ]

pub returns-else-conforms : goal.returns-else-conforms
unfolding is_datanode datanode_info
returns-else-conforms c =
    elim c.if-info-le256.branch [
      | then-info-le256 w ↦ c.if-conforms.false ∙ sym (and_right _ _ (and_left _ _ (sym w.conforms.ensures ∙ sym w.value-is ∙ c.if-conforms.false)))
      | else-info-le256 w ↦ c.if-conforms.false ∙ sym (and_left _ _ (lt-leb _ _ w.if-info-le256.false))
    ]
