-- The shapes of the samples, and when two of them are the same by value: part by part.
use Rattle.std.specs.Prelude.{◌≡◌, codes, string_bytes}
use Rattle.dynamo_value.specs.Bytes.{octets_of}
use Rattle.dynamo_value.specs.Integer.{u8, u64}
use Rattle.dynamo_ser.specs.Symbols.{strings, numbers, blobs}
use Rattle.dynamo_shape.specs.Absence.{required}
use Rattle.dynamo_shape.specs.ByValue.{SameEach}
use Rattle.dynamo_shape.specs.Shape.{Shape, string, bytes, integer, set, struct, enum, Shapes}
use Rattle.dynamo_shape.specs.Shape.{no_shapes, shape, FieldShapes, no_field_shapes, field_shape}
use Rattle.dynamo_shape.specs.Shape.{nothing, one, several, named, Variants, no_variants, variant}
use Rattle.serde_dynamo.specs.declared.samples.sets.Sets.{Sets}
use Rattle.serde_dynamo.specs.declared.samples.user.User.{User}

abbrev pub byte_shape : Shape
byte_shape = integer u8

abbrev pub user_fields : FieldShapes
user_fields =
    field_shape (codes "id") string required
    (field_shape (codes "name") string required
    (field_shape (codes "age") byte_shape required no_field_shapes))

abbrev pub user_shape : Shape
user_shape = struct (codes "User") user_fields

abbrev pub same_user : User → User → Type 0
same_user u v = (string_bytes u.id ≡ string_bytes v.id)
    × ((string_bytes u.name ≡ string_bytes v.name) × (u.age ≡ v.age))

abbrev pub two_bytes : Shapes
two_bytes = shape byte_shape (shape byte_shape no_shapes)

abbrev pub structy_fields : FieldShapes
structy_fields =
    field_shape (codes "one") byte_shape required
    (field_shape (codes "two") byte_shape required no_field_shapes)

abbrev pub event_variants : Variants
event_variants =
    variant (codes "Unit") nothing
    (variant (codes "Newtype") (one byte_shape)
    (variant (codes "Tuple") (several two_bytes)
    (variant (codes "Structy") (named structy_fields) no_variants)))

abbrev pub event_shape : Shape
event_shape = enum (codes "Event") event_variants

abbrev pub sets_fields : FieldShapes
sets_fields =
    field_shape (codes "names") (set strings string) required
    (field_shape (codes "numbers") (set numbers (integer u64)) required
    (field_shape (codes "blobs") (set blobs bytes) required no_field_shapes))

abbrev pub sets_shape : Shape
sets_shape = struct (codes "Sets") sets_fields

abbrev pub same_sets : Sets → Sets → Type 0
same_sets s t =
    SameEach (λ a b. string_bytes a ≡ string_bytes b) s.names.items t.names.items
    × (SameEach (λ a b. a ≡ b) s.numbers.items t.numbers.items
    × SameEach (λ a b. octets_of a ≡ octets_of b) s.blobs.items t.blobs.items)
