-- The data that conform to a shape: they are built as the shape says, with its names, the fields of a struct each once and in
-- the shape's order but for those that are left out, a variant with its place in the enum, the keys of a map all different, and
-- nothing refuses.
use Rattle.std.specs.Prelude.{◌≡◌, ◌⊎◌, ℕ, suc, ℤ, Bool, true, List, ⊤}
use Rattle.std.specs.Str.{is_utf8}
use Rattle.std.specs.Char.{IsScalar}
use Rattle.dynamo_ser.specs.Datum as datum
use Rattle.dynamo_ser.specs.Datum.{Datum, Elements, Pairs, Fields, Variant}
use Rattle.dynamo_ser.specs.Symbols.{symbol}
use Rattle.dynamo_de.specs.Number.{fits}
use Rattle.dynamo_shape.specs.Absence.{put_field}
use Rattle.dynamo_shape.specs.Order.{IsAscending}
use Rattle.dynamo_shape.specs.Shape.{Shape, boolean, char, string, bytes, unit, integer, unit_struct, option, newtype, list, set, tuple, tuple_struct, map, struct, struct_by, enum, tagged, ordered, Shapes, no_shapes, shape, FieldShapes, no_field_shapes, field_shape, Content, nothing, one, several, named, Variants, no_variants, variant, Tagged, no_tagged, tagged_variant}

abbrev pub AllElements : (Datum → Type 0) → Elements → Type 0
AllElements P datum.no_elements = ⊤
AllElements P (datum.element d ds) = P d × AllElements P ds

abbrev pub AllPairs : (Datum → Datum → Type 0) → Pairs → Type 0
AllPairs P datum.no_pairs = ⊤
AllPairs P (datum.pair k d ps) = P k d × AllPairs P ps

abbrev pub HasKey : Datum → Pairs → Type 0
HasKey k datum.no_pairs = ⊥
HasKey k (datum.pair l d ps) = (k ≡ l) ⊎ HasKey k ps

abbrev pub PairsDiffer : Pairs → Type 0
PairsDiffer datum.no_pairs = ⊤
PairsDiffer (datum.pair k d ps) = ¬ (HasKey k ps) × PairsDiffer ps

-- a variant's struct, whose first field is the tag with the variant's name
abbrev pub tagged_struct : List ℕ → List ℕ → List ℕ → Fields → Datum
tagged_struct tag v name gs = datum.struct name (datum.field tag (datum.string v) gs)

abbrev mutual
  pub conforms : Shape → Datum → Type 0
  conforms boolean d = (b : Bool) × (d ≡ datum.boolean b)
  conforms char d = (c : ℕ) × (d ≡ datum.char c) × IsScalar c
  conforms string d = (text : List ℕ) × (d ≡ datum.string text) × (is_utf8 text ≡ true)
  conforms bytes d = (bytes : List ℕ) × (d ≡ datum.bytes bytes)
  conforms unit d = d ≡ datum.unit
  conforms (integer k) d = (z : ℤ) × (d ≡ datum.integer k z) × (fits k z ≡ true)
  conforms (unit_struct name) d = d ≡ datum.unit_struct name
  conforms (option s) d = (d ≡ datum.none) ⊎ ((e : Datum) × (d ≡ datum.some e) × conforms s e)
  conforms (newtype name s) d = (e : Datum) × (d ≡ datum.newtype_struct name e) × conforms s e
  conforms (list s) d = (ds : Elements) × (d ≡ datum.seq ds) × AllElements (conforms s) ds
  conforms (set k s) d = (ds : Elements) × (d ≡ datum.newtype_struct (symbol k) (datum.seq ds)) × AllElements (conforms s) ds
  conforms (tuple ss) d = (ds : Elements) × (d ≡ datum.tuple ds) × conform_each ss ds
  conforms (tuple_struct name ss) d = (ds : Elements) × (d ≡ datum.tuple_struct name ds) × conform_each ss ds
  conforms (map k s) d = (ps : Pairs) × (d ≡ datum.map ps) × AllPairs (λ l e. conforms k l × conforms s e) ps × PairsDiffer ps
  conforms (struct name fs) d = (gs : Fields) × (d ≡ datum.struct name gs) × conform_fields fs gs
  conforms (struct_by rules name fs) d = (gs : Fields) × (d ≡ datum.struct name gs) × conform_fields fs gs
  conforms (enum name vs) d = conforms_variant name 0 vs d
  conforms (tagged tag vs) d = conforms_tagged tag vs d
  conforms (ordered s) d = conforms s d × IsAscending d

  pub conform_each : Shapes → Elements → Type 0
  conform_each no_shapes ds = ds ≡ datum.no_elements
  conform_each (shape s ss) ds = (e : Datum) × (es : Elements) × (ds ≡ datum.element e es) × conforms s e × conform_each ss es

  pub conform_fields : FieldShapes → Fields → Type 0
  conform_fields no_field_shapes gs = gs ≡ datum.no_fields
  conform_fields (field_shape name s default fs) gs = (e : Datum) × (hs : Fields) × (gs ≡ put_field name default e hs) × conforms s e × conform_fields fs hs

  pub conforms_content : Content → Variant → Datum → Type 0
  conforms_content nothing v d = d ≡ datum.unit_variant v
  conforms_content (one s) v d = (e : Datum) × (d ≡ datum.newtype_variant v e) × conforms s e
  conforms_content (several ss) v d = (ds : Elements) × (d ≡ datum.tuple_variant v ds) × conform_each ss ds
  conforms_content (named fs) v d = (gs : Fields) × (d ≡ datum.struct_variant v gs) × conform_fields fs gs

  -- one of the variants, of which the first has this place
  pub conforms_variant : List ℕ → ℕ → Variants → Datum → Type 0
  conforms_variant name i no_variants d = ⊥
  conforms_variant name i (variant v c vs) d = conforms_content c (datum.variant name i v) d ⊎ conforms_variant name (suc i) vs d

  -- the struct of one of the variants, after its name
  pub conforms_tagged : List ℕ → Tagged → Datum → Type 0
  conforms_tagged tag no_tagged d = ⊥
  conforms_tagged tag (tagged_variant v name fs vs) d = ((gs : Fields) × (d ≡ tagged_struct tag v name gs) × conform_fields fs gs) ⊎ conforms_tagged tag vs d
