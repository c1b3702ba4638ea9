-- Reading by a shape: the datum that a source reads as, or the fault. The scalars and what is inside of a source are read as
-- every type of that form reads them (`Scalars`, `Contents` of dynamo_de).
use Rattle.std.specs.Prelude.{ℕ, suc, Bool, List, [], ◌∷◌, ◌++◌, Option, Some, None, if◌then◌else◌, bytes_eq}
use Rattle.std.specs.List.{list_any}
use Rattle.dynamo_value.specs.Av.{Av}
use Rattle.dynamo_ser.specs.Datum as datum
use Rattle.dynamo_ser.specs.Datum.{Datum, Elements, Pairs, Fields, Variant}
use Rattle.dynamo_ser.specs.Symbols.{symbol}
use Rattle.dynamo_de.specs.Answer.{Answer, value, refused, value_or}
use Rattle.dynamo_value.specs.Steps.{◌>>=◌}
use Rattle.dynamo_de.specs.Reading.{read_content, read_elements, read_entries, read_newtype, read_parts, read_variant, read_bool, read_integer, read_char, read_string, read_bytes, read_unit, read_unit_struct}
use Rattle.dynamo_de.specs.Visitors.{Parts, by_name, in_order}
use Rattle.dynamo_de.specs.Ignored.{ignore}
use Rattle.dynamo_de.specs.Source.{Source, Text, Entry, attribute, key_text}
use Rattle.dynamo_shape.specs.Absence.{Absence, required, read_as, left_out, put_field}
use Rattle.dynamo_shape.specs.Clear.{is_field}
use Rattle.dynamo_shape.specs.Conforms.{tagged_struct}
use Rattle.dynamo_shape.specs.NameRules.{NameRules, own_name}
use Rattle.dynamo_shape.specs.Order.{sorted}
use Rattle.dynamo_shape.specs.SameKey.{put_pair}
use Rattle.dynamo_shape.specs.Shape.{Shape, boolean, char, string, bytes, unit, integer, unit_struct, option, newtype, list, set, tuple, tuple_struct, map, struct, struct_by, enum, tagged, ordered, Shapes, no_shapes, shape, FieldShapes, no_field_shapes, field_shape, Content, nothing, one, several, named, Variants, no_variants, variant, Tagged, no_tagged, tagged_variant}

-- f of what is read
abbrev pub into : {A B : Type 0} → (A → B) → Answer A → Answer B
into f r = r >>= λ x. value (f x)

abbrev pub read_some : (Source → Answer Datum) → Option Source → Answer Datum
read_some reads None = value datum.none
read_some reads (Some s) = into datum.some (reads s)

-- ---- lists and maps

abbrev pub read_list : (Source → Answer Datum) → List Source → Answer Elements
read_list reads [] = value datum.no_elements
read_list reads (s ∷ ss) = do
  d ← reads s
  ds ← read_list reads ss
  value (datum.element d ds)

-- Entry by entry, a key before its value, onto the pairs that were read before: of equal keys the last value stays.
abbrev pub read_pairs : (Source → Answer Datum) → (Source → Answer Datum) → Pairs → List Entry → Answer Pairs
read_pairs keys values ps [] = value ps
read_pairs keys values ps (e ∷ es) = do
  l ← keys (key_text e.0)
  d ← values (attribute e.1)
  read_pairs keys values (put_pair l d ps) es

-- ---- the fields of a struct by their names

-- each entry's datum, in order; the first fault is the fault
abbrev pub read_each_entry : (Text → Av → Answer Datum) → List Entry → Answer (List (Text × Datum))
read_each_entry reads [] = value []
read_each_entry reads (e ∷ es) = do
  d ← reads e.0 e.1
  rest ← read_each_entry reads es
  value ((e.0, d) ∷ rest)

-- the last entry of this name, else what was there before
abbrev pub last_of : {A : Type 0} → Text → List (Text × A) → Option A → Option A
last_of t [] before = before
last_of t (e ∷ es) before = last_of t es (if bytes_eq t e.0 then Some e.1 else before)

-- the entry of this name, unless a field before has taken it
abbrev pub entry_for : {A : Type 0} → List Text → Text → List (Text × A) → Option A
entry_for taken t es = if list_any (λ u. bytes_eq u t) taken then None else last_of t es None

-- where no entry is left for a field, its default is read; without one an option is none, and any other field is missed by a
-- message
abbrev pub missing : Shape → Absence → Answer Datum
missing s (read_as d) = value d
missing s (left_out d) = value d
missing (option s) required = value datum.none
missing _ required = refused

abbrev pub fields_among : FieldShapes → List Text → List (Text × Datum) → Answer Fields
fields_among no_field_shapes taken es = value datum.no_fields
fields_among (field_shape name s default fs) taken es = do
  d ← value_or (entry_for taken name es) (missing s default)
  gs ← fields_among fs (name ∷ taken) es
  value (put_field name default d gs)

-- every entry is read before a field is missed
abbrev pub fields_by_name : FieldShapes → (Text → Av → Answer Datum) → List Entry → Answer Fields
fields_by_name fs reads es = read_each_entry reads es >>= fields_among fs []

abbrev pub fields_of : FieldShapes → (List Source → Answer Fields) → (Text → Av → Answer Datum) → Parts → Answer Fields
fields_of fs listed reads (by_name es) = fields_by_name fs reads es
fields_of fs listed reads (in_order ss) = listed ss

-- ---- the fields of a struct by its rules

-- A second entry of a field is refused, and if the rules deny it, an entry of no field.
abbrev pub is_refused : Bool → FieldShapes → List (Text × Datum) → Text → Bool
is_refused denies fs before own = if is_field fs own then list_any (λ x. bytes_eq own x.0) before else denies

-- an entry is refused by the rules, or read as the field of its own name
abbrev pub entry_by_rules : NameRules → FieldShapes → (Text → Av → Answer Datum) → List (Text × Datum) → Entry → Answer (Text × Datum)
entry_by_rules rules fs reads before e =
    let own = own_name rules.aliases e.0 in
    if is_refused rules.denies fs before own then refused else into (λ d. (own, d)) (reads own e.1)

-- entry by entry, each after what was read before; the first fault is the fault
abbrev pub read_by_rules : NameRules → FieldShapes → (Text → Av → Answer Datum) → List (Text × Datum) → List Entry → Answer (List (Text × Datum))
read_by_rules rules fs reads before [] = value before
read_by_rules rules fs reads before (e ∷ es) = entry_by_rules rules fs reads before e >>= λ x. read_by_rules rules fs reads (before ++ x ∷ []) es

-- the entries of a map are read by the rules, and the elements of a list in order, without them
abbrev pub fields_by_rules : NameRules → FieldShapes → (List Source → Answer Fields) → (Text → Av → Answer Datum) → Parts → Answer Fields
fields_by_rules rules fs listed reads (by_name es) = read_by_rules rules fs reads [] es >>= fields_among fs []
fields_by_rules rules fs listed reads (in_order ss) = listed ss

-- ---- the tag of an enum

-- the name of a variant, where there is one
abbrev pub read_tag_of : Option Av → Answer Text
read_tag_of None = refused
read_tag_of (Some a) = read_string (attribute a)

-- the text under the tag; without one, a message
abbrev pub read_tag : Text → List Entry → Answer Text
read_tag tag es = read_tag_of (last_of tag es None)

-- ---- all shapes

abbrev mutual
  pub read : Shape → Source → Answer Datum
  read boolean s = into datum.boolean (read_bool s)
  read char s = into datum.char (read_char s)
  read string s = into datum.string (read_string s)
  read bytes s = into datum.bytes (read_bytes s)
  read unit s = into (λ _. datum.unit) (read_unit s)
  read (integer k) s = into (datum.integer k) (read_integer k s)
  read (unit_struct name) s = into (λ _. datum.unit_struct name) (read_unit_struct s)
  read (option t) s = read_content s >>= read_some (read t)
  read (newtype name t) s = read_newtype s >>= λ c. into (datum.newtype_struct name) (read t c)
  read (list t) s = into datum.seq (read_elements s >>= read_list (read t))
  read (set k t) s = into (λ ds. datum.newtype_struct (symbol k) (datum.seq ds)) (read_elements s >>= read_list (read t))
  read (tuple ts) s = into datum.tuple (read_elements s >>= read_each ts)
  read (tuple_struct name ts) s = into (datum.tuple_struct name) (read_elements s >>= read_each ts)
  read (map k t) s = into datum.map (read_entries s >>= read_pairs (read k) (read t) datum.no_pairs)
  read (struct name fs) s = into (datum.struct name) (read_parts s >>= fields_of fs (fields_in_order fs) (read_field fs))
  read (struct_by rules name fs) s = into (datum.struct name) (read_parts s >>= fields_by_rules rules fs (fields_in_order fs) (read_field fs))
  read (enum name vs) s = read_variant s >>= λ v. read_one_of vs name 0 v.0 v.1
  read (tagged tag vs) s = do
    es ← read_entries s
    t ← read_tag tag es
    read_tagged vs tag t es
  read (ordered t) s = into sorted (read t s)

  -- the first elements; fewer are refused, more are let go unread
  pub read_each : Shapes → List Source → Answer Elements
  read_each no_shapes ss = value datum.no_elements
  read_each (shape t ts) [] = refused
  read_each (shape t ts) (s ∷ ss) = do
    d ← read t s
    ds ← read_each ts ss
    value (datum.element d ds)

  -- no default stands in for an element that is not there
  pub fields_in_order : FieldShapes → List Source → Answer Fields
  fields_in_order no_field_shapes ss = value datum.no_fields
  fields_in_order (field_shape name t default fs) [] = refused
  fields_in_order (field_shape name t default fs) (s ∷ ss) = do
    d ← read t s
    gs ← fields_in_order fs ss
    value (put_field name default d gs)

  -- An entry is read by the first field of its name. Any other is ignored, which may meet a fault.
  pub read_field : FieldShapes → Text → Av → Answer Datum
  read_field no_field_shapes name a = into (λ _. datum.unit) (ignore a)
  read_field (field_shape own t default fs) name a = if bytes_eq name own then read t (attribute a) else read_field fs name a

  -- by the first variant of that name, where the first one has this place; an unknown name is refused
  pub read_one_of : Variants → Text → ℕ → Text → Option Source → Answer Datum
  read_one_of no_variants name i t s = refused
  read_one_of (variant own c vs) name i t s = if bytes_eq t own then read_inside c (datum.variant name i own) s else read_one_of vs name (suc i) t s

  -- a unit variant needs nothing of the content; the others need one
  pub read_inside : Content → Variant → Option Source → Answer Datum
  read_inside nothing v s = value (datum.unit_variant v)
  read_inside c v None = refused
  read_inside (one t) v (Some s) = into (datum.newtype_variant v) (read t s)
  read_inside (several ts) v (Some s) = into (datum.tuple_variant v) (read_elements s >>= read_each ts)
  read_inside (named fs) v (Some s) = into (datum.struct_variant v) (read_entries s >>= fields_by_name fs (read_field fs))

  -- The struct of the first variant of that name is read from the same entries, among which the tag is ignored. An unknown
  -- name is refused.
  pub read_tagged : Tagged → Text → Text → List Entry → Answer Datum
  read_tagged no_tagged tag t es = refused
  read_tagged (tagged_variant v name fs vs) tag t es = if bytes_eq t v then into (tagged_struct tag v name) (fields_by_name fs (read_field fs) es) else read_tagged vs tag t es
