-- Reading gives back what was written. Assumes nothing.
use Rattle.std.specs.Prelude.{◌≡◌, ℕ, ◌+◌, ◌^◌, ◌<◌, true, List, [], ◌∷◌, ◌++◌, length, Ok, Err, Result}
use Rattle.wire.specs.declared.field.DecodeError.{DecodeError}
use Rattle.wire.specs.declared.field.Fault.{Fault}
use Rattle.wire.specs.Fields.{WireField, varint, fixed64, part, fixed32, encode, encode_all}
use Rattle.wire.specs.Read.{is_tag, read_field, and_then, decoded}

-- a field whose tag is one, and whose number or length has its width
abbrev pub Sound : WireField → Type 0
Sound (varint tag n) = (is_tag tag ≡ true) × (n < 2 ^ 64)
Sound (fixed64 tag n) = (is_tag tag ≡ true) × (n < 2 ^ 64)
Sound (part tag bs) = (is_tag tag ≡ true) × (length bs < 2 ^ 64)
Sound (fixed32 tag n) = (is_tag tag ≡ true) × (n < 2 ^ 32)

abbrev pub AllSound : List WireField → Type 0
AllSound [] = Unit {0}
AllSound (f ∷ fs) = Sound f × AllSound fs

-- a field is read back, wherever it stands
abbrev pub ReadBack : Type 0
ReadBack = (f : WireField) (before after : List ℕ) → Sound f → read_field (length before) (before ++ (encode f ++ after)) ≡ Ok (f, length before + length (encode f))

-- the fields of a message one after another
abbrev pub merge_all : {S : Type 0} → (S → WireField → Result S Fault) → S → List WireField → Result S Fault
merge_all merge s [] = Ok s
merge_all merge s (f ∷ fs) = and_then (merge s f) (λ t. merge_all merge t fs)

abbrev pub unplaced : {S : Type 0} → Result S DecodeError → Result S Fault
unplaced (Ok s) = Ok s
unplaced (Err e) = Err e.fault

-- a message is read back as its fields, whatever is made of them
abbrev pub DecodeBack : Type 0 → Type 0
DecodeBack S = (merge : S → WireField → Result S Fault) (s : S) (fs : List WireField) → AllSound fs → unplaced (decoded merge s (encode_all fs)) ≡ merge_all merge s fs
