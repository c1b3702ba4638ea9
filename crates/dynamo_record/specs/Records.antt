-- Structs that are described by the list of their fields.
use Rattle.std.specs.Prelude.{◌≡◌, ℕ, suc, true, [], Result, bytes_eq, if◌then◌else◌}
use Rattle.std.proofs.Common.{length}
use Rattle.dynamo_value.specs.Fault.{Fault}
use Rattle.dynamo_ser.specs.Datum as datum
use Rattle.dynamo_ser.specs.Datum.{Datum, Fields}
use Rattle.dynamo_de.specs.Answer.{Answer}
use Rattle.dynamo_de.specs.Visitors.{Parts}
use Rattle.dynamo_de.specs.Source.{Source, Text}
use Rattle.dynamo_shape.specs.Conforms.{conforms}
use Rattle.dynamo_shape.specs.Laws.{AnswersByShape}
use Rattle.dynamo_shape.specs.Read.{read, into, fields_of, fields_in_order, read_field}
use Rattle.dynamo_shape.specs.Same.{Same}
use Rattle.dynamo_shape.specs.Shape as shape
use Rattle.dynamo_shape.specs.Shape.{Shape, FieldShapes}
use Rattle.dynamo_record.specs.About.{About}
use Rattle.dynamo_record.specs.Fields.{AsMany, field_shapes, named_fields}
use Rattle.dynamo_record.specs.Listed.{AboutList, IfRead}
use Rattle.dynamo_record.specs.Names.{Names, differ}
use Rattle.dynamo_record.specs.Told.{struct_told, struct_alike}
use Rattle.dynamo_record.specs.Apart.{names_differ}
use Rattle.dynamo_shape.proofs.FieldsByName.{NamesDiffer}

-- The name of a struct, those of its fields in order, its fields, and what is known of these.
pub record AboutRecord (V L : Type 0) : Type 1 where
  pub name : Text
  pub names : Names
  pub parts : V → L
  pub list : AboutList L

abbrev pub record_of : {V L : Type 0} → Text → Names → (V → L) → AboutList L → AboutRecord V L
record_of name names parts list = record { name = name; names = names; parts = parts; list = list }

-- the same description, by this list of the fields
abbrev pub listed : {V L : Type 0} → AboutRecord V L → AboutList L → AboutRecord V L
listed a list = record_of a.name a.names a.parts list

module _ {V L : Type 0} (a : AboutRecord V L) where
  abbrev pub record_fields : FieldShapes
  record_fields = field_shapes a.names (a.list.shapes []) (a.list.defaults [])

  abbrev pub record_shape : Shape
  record_shape = shape.struct a.name record_fields

  abbrev pub record_told : V → Fields
  record_told v = named_fields a.names (a.list.defaults []) (a.list.told (a.parts v) [])

  -- the struct of its name, and of its fields under their names
  abbrev pub record_tells : V → Datum
  record_tells v = datum.struct a.name (record_told v)

  -- the same field by field
  abbrev pub record_same : V → V → Type 0
  record_same v w = a.list.same (a.parts v) (a.parts w)

  abbrev pub RecordAnswers : Answer Datum → Result V Fault → Type 0
  RecordAnswers = AnswersByShape (conforms record_shape) Same record_tells

  -- the value tells the datum, so far as it conforms
  abbrev pub IsAlike : Datum → Result V Fault → Type 0
  IsAlike d r = IfRead (λ v. conforms record_shape (record_tells v) → Same d (record_tells v)) r

  -- what may be answered on a source: what reading at the shape gives
  abbrev pub record_reads : Source → Result V Fault → Type 0
  record_reads source r = RecordAnswers (read record_shape source) r

  -- what may be answered on the parts of a struct
  abbrev pub FromParts : Parts → Result V Fault → Type 0
  FromParts p r = RecordAnswers
      (into (datum.struct a.name)
      (fields_of record_fields (fields_in_order record_fields) (read_field record_fields) p)) r

  -- No two fields have one name, and each has one.
  abbrev pub AreNamed : Type 0
  AreNamed = (differ a.names ≡ true) × (length a.names ≡ length (a.list.shapes []))

  pub names_apart : AreNamed → NamesDiffer record_fields
  names_apart named = names_differ a.names (a.list.shapes []) (a.list.defaults []) named.0 named.1

  pub each_many : (v : V) → AsMany (a.list.shapes []) (a.list.told (a.parts v) [])
  each_many v = a.list.many (a.parts v) [] [] tt

  abbrev pub about_record : AreNamed → About V
  about_record named = record {
    shape = record_shape;
    tells = record_tells;
    same = record_same;
    told_by_value = struct_told a.name a.names (a.list.shapes []) (a.list.defaults []) (λ v. a.list.told (a.parts v) []) record_same (names_apart named) each_many (λ v w c d h. (a.list.told_by_value (a.parts v) (a.parts w) [] [] [] c d h).0);
    told_alike = struct_alike a.name a.names (a.list.shapes []) (a.list.defaults []) (λ v. a.list.told (a.parts v) []) record_same (names_apart named) each_many (λ v w c d h. a.list.told_alike (a.parts v) (a.parts w) [] [] [] c d h (λ _ _. tt));
  }

-- a list of fields as long as that of the description
abbrev pub AsLong : {V L : Type 0} → AboutRecord V L → AboutList L → Type 0
AsLong a list = length (a.list.shapes []) ≡ length (list.shapes [])

-- the place of the first field of this name, where the first has place i; of another name the place
-- after the last
abbrev pub place_in : ℕ → FieldShapes → Text → ℕ
place_in i shape.no_field_shapes t = i
place_in i (shape.field_shape own s d fs) t = if bytes_eq t own then i else place_in (suc i) fs t
