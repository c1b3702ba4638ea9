-- Clear shapes: those at which whatever is written reads back as it was. At every depth
--   no option is over what may be written as null itself,
--   the names of fields are distinct, and so are those of variants, and a tag is none of its variants' fields,
--   no other name of a field is the own name of one,
--   a field is left out only for a default that nothing else of its shape reads back as,
--   map keys are booleans, integers, characters, texts, enums of unit variants, or newtypes over these,
--   the elements of a set are such as the set holds, none of them under a newtype or an option,
--   and no newtype has the name that asks for a set.
-- Without the first condition a shape is nearly clear: then some of null reads back as none.
use Rattle.std.specs.Prelude.{◌≡◌, Bool, false, List, [], ◌∷◌, None, ◌||◌, bytes_eq, ⊤}
use Rattle.dynamo_ser.specs.Datum as datum
use Rattle.dynamo_ser.specs.Datum.{Datum}
use Rattle.dynamo_ser.specs.Symbols.{SetKind}
use Rattle.dynamo_write.specs.Set.{set_kind}
use Rattle.dynamo_de.specs.Source.{Text}
use Rattle.dynamo_shape.specs.Absence.{Absence, left_out}
use Rattle.dynamo_shape.specs.Shape as shape
use Rattle.dynamo_shape.specs.Shape.{Shape, Shapes, FieldShapes, Content, Variants, Tagged}

-- written as null, or perhaps so
abbrev pub Nullable : Shape → Type 0
Nullable shape.unit = ⊤
Nullable (shape.unit_struct name) = ⊤
Nullable (shape.option s) = ⊤
Nullable (shape.newtype name s) = Nullable s
Nullable (shape.ordered s) = Nullable s
Nullable _ = ⊥

abbrev pub is_variant : Variants → Text → Bool
is_variant shape.no_variants t = false
is_variant (shape.variant v c vs) t = bytes_eq v t || is_variant vs t

abbrev pub is_field : FieldShapes → Text → Bool
is_field shape.no_field_shapes t = false
is_field (shape.field_shape name s default fs) t = bytes_eq t name || is_field fs t

-- no other name is the own name of a field
abbrev pub AliasesApart : FieldShapes → List (Text × Text) → Type 0
AliasesApart fs [] = ⊤
AliasesApart fs (a ∷ others) = (is_field fs a.0 ≡ false) × AliasesApart fs others

abbrev pub is_tagged : Tagged → Text → Bool
is_tagged shape.no_tagged t = false
is_tagged (shape.tagged_variant v name fs vs) t = bytes_eq v t || is_tagged vs t

-- unit variants of distinct names
abbrev pub AreUnits : Variants → Type 0
AreUnits shape.no_variants = ⊤
AreUnits (shape.variant v shape.nothing vs) = (is_variant vs v ≡ false) × AreUnits vs
AreUnits (shape.variant v c vs) = ⊥

abbrev pub IsKey : Shape → Type 0
IsKey shape.boolean = ⊤
IsKey shape.char = ⊤
IsKey shape.string = ⊤
IsKey (shape.integer k) = ⊤
IsKey (shape.newtype name s) = (set_kind name ≡ None) × IsKey s
IsKey (shape.enum name vs) = AreUnits vs
IsKey _ = ⊥

abbrev pub IsElement : SetKind → Shape → Type 0
IsElement SetKind.strings shape.string = ⊤
IsElement SetKind.strings shape.char = ⊤
IsElement SetKind.strings (shape.enum name vs) = AreUnits vs
IsElement SetKind.numbers (shape.integer k) = ⊤
IsElement SetKind.blobs shape.bytes = ⊤
IsElement _ _ = ⊥

-- A field of this shape may be left out if it holds this default. It may for none if nothing else is written as null.
abbrev pub MayBeLeftOut : Shape → Datum → Type 0
MayBeLeftOut shape.boolean (datum.boolean b) = ⊤
MayBeLeftOut shape.char (datum.char c) = ⊤
MayBeLeftOut shape.string (datum.string t) = ⊤
MayBeLeftOut shape.bytes (datum.bytes t) = ⊤
MayBeLeftOut (shape.integer k) (datum.integer j z) = ⊤
MayBeLeftOut (shape.option s) datum.none = ¬ (Nullable s)
MayBeLeftOut (shape.list s) (datum.seq datum.no_elements) = ⊤
MayBeLeftOut (shape.set k s) (datum.newtype_struct name (datum.seq datum.no_elements)) = ⊤
MayBeLeftOut (shape.map k s) (datum.map datum.no_pairs) = ⊤
MayBeLeftOut (shape.enum name vs) (datum.unit_variant v) = ⊤
MayBeLeftOut (shape.newtype name s) (datum.newtype_struct other d) = MayBeLeftOut s d
MayBeLeftOut (shape.ordered s) d = MayBeLeftOut s d
MayBeLeftOut _ _ = ⊥

-- P, and of a field that is left out, that it may be for its default
abbrev pub AndLeftOut : Absence → Shape → Type 0 → Type 0
AndLeftOut (left_out d) s P = P × MayBeLeftOut s d
AndLeftOut _ s P = P

abbrev mutual
  pub NearlyClear : Shape → Type 0
  NearlyClear (shape.option s) = NearlyClear s
  NearlyClear (shape.newtype name s) = (set_kind name ≡ None) × NearlyClear s
  NearlyClear (shape.list s) = NearlyClear s
  NearlyClear (shape.set k s) = IsElement k s
  NearlyClear (shape.tuple ss) = NearlyClearAll ss
  NearlyClear (shape.tuple_struct name ss) = NearlyClearAll ss
  NearlyClear (shape.map k s) = IsKey k × NearlyClear s
  NearlyClear (shape.struct name fs) = NearlyClearFields fs
  NearlyClear (shape.struct_by rules name fs) = AliasesApart fs rules.aliases × NearlyClearFields fs
  NearlyClear (shape.enum name vs) = NearlyClearVariants vs
  NearlyClear (shape.tagged tag vs) = NearlyClearTagged tag vs
  NearlyClear (shape.ordered s) = NearlyClear s
  NearlyClear _ = ⊤

  pub NearlyClearAll : Shapes → Type 0
  NearlyClearAll shape.no_shapes = ⊤
  NearlyClearAll (shape.shape s ss) = NearlyClear s × NearlyClearAll ss

  pub NearlyClearFields : FieldShapes → Type 0
  NearlyClearFields shape.no_field_shapes = ⊤
  NearlyClearFields (shape.field_shape name s default fs) = (is_field fs name ≡ false) × AndLeftOut default s (NearlyClear s) × NearlyClearFields fs

  pub NearlyClearContent : Content → Type 0
  NearlyClearContent shape.nothing = ⊤
  NearlyClearContent (shape.one s) = NearlyClear s
  NearlyClearContent (shape.several ss) = NearlyClearAll ss
  NearlyClearContent (shape.named fs) = NearlyClearFields fs

  pub NearlyClearVariants : Variants → Type 0
  NearlyClearVariants shape.no_variants = ⊤
  NearlyClearVariants (shape.variant v c vs) = (is_variant vs v ≡ false) × NearlyClearContent c × NearlyClearVariants vs

  pub NearlyClearTagged : Text → Tagged → Type 0
  NearlyClearTagged tag shape.no_tagged = ⊤
  NearlyClearTagged tag (shape.tagged_variant v name fs vs) = (is_tagged vs v ≡ false) × (is_field fs tag ≡ false) × NearlyClearFields fs × NearlyClearTagged tag vs

-- no option over what may be null
abbrev mutual
  pub NoneNested : Shape → Type 0
  NoneNested (shape.option s) = ¬ (Nullable s) × NoneNested s
  NoneNested (shape.newtype name s) = NoneNested s
  NoneNested (shape.list s) = NoneNested s
  NoneNested (shape.set k s) = NoneNested s
  NoneNested (shape.tuple ss) = NoneNestedAll ss
  NoneNested (shape.tuple_struct name ss) = NoneNestedAll ss
  NoneNested (shape.map k s) = NoneNested k × NoneNested s
  NoneNested (shape.struct name fs) = NoneNestedFields fs
  NoneNested (shape.struct_by rules name fs) = NoneNestedFields fs
  NoneNested (shape.enum name vs) = NoneNestedVariants vs
  NoneNested (shape.tagged tag vs) = NoneNestedTagged vs
  NoneNested (shape.ordered s) = NoneNested s
  NoneNested _ = ⊤

  pub NoneNestedAll : Shapes → Type 0
  NoneNestedAll shape.no_shapes = ⊤
  NoneNestedAll (shape.shape s ss) = NoneNested s × NoneNestedAll ss

  pub NoneNestedFields : FieldShapes → Type 0
  NoneNestedFields shape.no_field_shapes = ⊤
  NoneNestedFields (shape.field_shape name s default fs) = NoneNested s × NoneNestedFields fs

  pub NoneNestedContent : Content → Type 0
  NoneNestedContent shape.nothing = ⊤
  NoneNestedContent (shape.one s) = NoneNested s
  NoneNestedContent (shape.several ss) = NoneNestedAll ss
  NoneNestedContent (shape.named fs) = NoneNestedFields fs

  pub NoneNestedVariants : Variants → Type 0
  NoneNestedVariants shape.no_variants = ⊤
  NoneNestedVariants (shape.variant v c vs) = NoneNestedContent c × NoneNestedVariants vs

  pub NoneNestedTagged : Tagged → Type 0
  NoneNestedTagged shape.no_tagged = ⊤
  NoneNestedTagged (shape.tagged_variant v name fs vs) = NoneNestedFields fs × NoneNestedTagged vs

pub record Clear (s : Shape) : Type 0 where
  pub nearly : NearlyClear s
  pub none_nested : NoneNested s
