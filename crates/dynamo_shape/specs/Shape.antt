-- The shape of a type: what the data look like that its values tell, and by which it reads.
use Rattle.std.specs.Prelude.{ℕ, List}
use Rattle.dynamo_value.specs.Integer.{IntegerKind}
use Rattle.dynamo_ser.specs.Symbols.{SetKind}
use Rattle.dynamo_shape.specs.Absence.{Absence}
use Rattle.dynamo_shape.specs.NameRules.{NameRules}

-- One constructor for each form of data; a list's elements, a map's keys and values and an option's content have one shape
-- each. A set is a list that is written as a set of its kind. The fields of a struct and the variants of an enum are in order.
-- A tagged enum is written as the struct of its variant, which the first field names, under the tag. A struct by rules is
-- written as the struct, and reads the entries of a map by its rules. A list or a set that is ordered has distinct elements, in
-- their order.
mutual
  pub data Shape : Type 0 where
    boolean char string bytes unit : Shape
    integer : IntegerKind → Shape
    unit_struct : List ℕ → Shape
    option : Shape → Shape
    newtype : List ℕ → Shape → Shape
    list : Shape → Shape
    set : SetKind → Shape → Shape
    tuple : Shapes → Shape
    tuple_struct : List ℕ → Shapes → Shape
    map : Shape → Shape → Shape
    struct : List ℕ → FieldShapes → Shape
    struct_by : NameRules → List ℕ → FieldShapes → Shape
    enum : List ℕ → Variants → Shape
    tagged : List ℕ → Tagged → Shape
    ordered : Shape → Shape

  pub data Shapes : Type 0 where
    no_shapes : Shapes
    shape : Shape → Shapes → Shapes

  -- a field's name, its shape, and what it means that it isn't there
  pub data FieldShapes : Type 0 where
    no_field_shapes : FieldShapes
    field_shape : List ℕ → Shape → Absence → FieldShapes → FieldShapes

  -- what a variant holds: nothing, as a newtype one content, as a tuple several, as a struct named ones
  pub data Content : Type 0 where
    nothing : Content
    one : Shape → Content
    several : Shapes → Content
    named : FieldShapes → Content

  pub data Variants : Type 0 where
    no_variants : Variants
    variant : List ℕ → Content → Variants → Variants

  -- a variant's name, and its struct: the struct's name, and its fields after the tag
  pub data Tagged : Type 0 where
    no_tagged : Tagged
    tagged_variant : List ℕ → List ℕ → FieldShapes → Tagged → Tagged
