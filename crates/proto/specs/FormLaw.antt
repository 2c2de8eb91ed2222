-- What the form of a message means: it is written from fields that its table allows. Assumes nothing.
use Rattle.std.specs.Prelude.{◌≡◌, ℕ, Bool, true, false, ◌&&◌, ◌⊎◌, ◌↔◌, List, [], ◌∷◌, nat_lt}
use Rattle.wire.specs.Fields.{WireField, tag_of, encode_all}
use Rattle.wire.specs.Laws.{AllSound}
use Rattle.wire.specs.Octets.{AllOctets}
use Rattle.proto.specs.declared.form.Rule.{Rule}
use Rattle.proto.specs.Form.{fits, form_of}
use Rattle.proto.specs.Rules.{datanode_id, datanode_info, block_token}

-- the tags of a table rise, from above `low` on
abbrev pub rising_from : ℕ → List Rule → Bool
rising_from low [] = true
rising_from low (r ∷ rs) = nat_lt low r.tag && rising_from r.tag rs

abbrev pub Rising : List Rule → Type 0
Rising rules = rising_from 0 rules ≡ true

-- the fields are those of the table, in its order: each rule has its field, of its tag and kind, or is passed over, where its field is not required
abbrev pub Conform : List Rule → List WireField → Type 0
Conform [] [] = Unit {0}
Conform [] (f ∷ fs) = ⊥
Conform (r ∷ rs) [] = (r.required ≡ false) × Conform rs []
Conform (r ∷ rs) (f ∷ fs) = ((tag_of f ≡ r.tag) × (fits r.kind f ≡ true) × Conform rs fs) ⊎ ((r.required ≡ false) × Conform rs (f ∷ fs))

-- the octets are those that such fields are written as
pub record Written (rules : List Rule) (bs : List ℕ) : Type 0 where
  pub fields : List WireField
  pub sound : AllSound fields
  pub conform : Conform rules fields
  pub octets : bs ≡ encode_all fields

-- for tags that rise, a message is in form just where it is written from fields that conform
abbrev pub FormsStand : Type 0
FormsStand = (rules : List Rule) (bs : List ℕ) → Rising rules → AllOctets bs → (form_of rules bs ≡ true) ↔ Written rules bs

-- the tables have tags that rise
abbrev pub TablesRise : Type 0
TablesRise = Rising datanode_id × Rising datanode_info × Rising block_token
