-- The form of a message: the fields of a list of rules, in the order of their tags, each written shortest, and nothing else. Assumes nothing.
use Rattle.std.specs.Prelude.{ℕ, ◌-◌, ◌^◌, Bool, true, false, cond, ◌&&◌, ◌||◌, List, [], ◌∷◌, length, Some, None, Ok, Err, Option, Result, ◌==◌, nat_le, nat_lt}
use Rattle.wire.specs.declared.field.Fault.{Fault}
use Rattle.wire.specs.Fields.{WireField, varint, fixed64, part, fixed32, tag_of, encode}
use Rattle.wire.specs.Read.{read_field}
use Rattle.proto.specs.declared.form.Kind.{Kind}
use Rattle.proto.specs.declared.form.Kind.TheVariants.{Text, Bytes, Uint64, Uint32, Int32}
use Rattle.proto.specs.declared.form.Rule.{Rule}

abbrev pub is_ascii : List ℕ → Bool
is_ascii [] = true
is_ascii (b ∷ bs) = nat_lt b 128 && is_ascii bs

abbrev pub is_text : ℕ → List ℕ → Bool
is_text limit bs = nat_le (length bs) limit && is_ascii bs

-- whether a part or a number is what a field of that kind holds
abbrev pub fits_part : Kind → List ℕ → Bool
fits_part Text bs = is_text 64 bs
fits_part Bytes bs = true
fits_part Uint64 bs = false
fits_part Uint32 bs = false
fits_part Int32 bs = false

abbrev pub fits_number : Kind → ℕ → Bool
fits_number Text n = false
fits_number Bytes n = false
fits_number Uint64 n = true
fits_number Uint32 n = nat_lt n (2 ^ 32)
fits_number Int32 n = nat_lt n (2 ^ 31) || nat_le (2 ^ 64 - 2 ^ 31) n

abbrev pub fits : Kind → WireField → Bool
fits k (varint tag n) = fits_number k n
fits k (fixed64 tag n) = false
fits k (part tag bs) = fits_part k bs
fits k (fixed32 tag n) = false

-- the place past the field of a rule, where it stands at `at` as it should, or where it may be absent
abbrev pub absent : Rule → ℕ → Option ℕ
absent r at = cond r.required None (Some at)

abbrev pub present : Rule → ℕ → Result (WireField × ℕ) Fault → Option ℕ
present r at (Err e) = None
present r at (Ok x) =
    cond (tag_of x.0 == r.tag)
    (cond (x.1 - at == length (encode x.0) && fits r.kind x.0) (Some x.1) None)
    (absent r at)

abbrev pub rule_at : Rule → ℕ → List ℕ → Option ℕ
rule_at r at bs = cond (nat_lt at (length bs)) (present r at (read_field at bs)) (absent r at)

abbrev pub from : Option ℕ → (ℕ → Bool) → Bool
from None go = false
from (Some at) go = go at

abbrev pub form_from : List Rule → ℕ → List ℕ → Bool
form_from [] at bs = at == length bs
form_from (r ∷ rs) at bs = from (rule_at r at bs) (λ next. form_from rs next bs)

unfoldable pub form_of : List Rule → List ℕ → Bool
form_of rules bs = form_from rules 0 bs
