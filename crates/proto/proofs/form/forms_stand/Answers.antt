use Rattle.std.proofs.Common.{refl}
use Rattle.proto.specs.Form.{form_of}
use Rattle.proto.specs.Rules.{datanode_id, datanode_info, block_token}
use Rattle.proto.proofs.Conforming.{in_form_lem, has_fields}
use Rattle.proto.proofs.form.forms_stand.Goals as goal

pub returns : goal.returns
unfolding form_of datanode_id datanode_info block_token
returns c = record { form = λ rules bs rising octets. (has_fields rules bs octets, in_form_lem rules bs rising); tables = (refl, refl, refl) }
