-- A field of the program that is to be written, as one of the message. Assumes nothing.
use Rattle.wire.specs.declared.encode.OneField.{OneField}
use Rattle.wire.specs.declared.encode.OneField.TheVariants.{Uint, Fixed64, Bytes, Fixed32}
use Rattle.wire.specs.Fields.{WireField, varint, fixed64, part, fixed32}

abbrev pub one_field : OneField → WireField
one_field (Uint u) = varint u.tag u.value
one_field (Fixed64 tag value) = fixed64 tag value
one_field (Bytes b) = part b.tag b.bytes.now
one_field (Fixed32 tag value) = fixed32 tag value
