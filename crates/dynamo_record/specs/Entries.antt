-- The entries of a map, read one after another as the fields of a struct.
use Rattle.std.specs.Prelude.{◌≡◌, ℕ, suc, List, [], Result}
use Rattle.std.proofs.Common.{zero}
use Rattle.dynamo_value.specs.Av.{Av}
use Rattle.dynamo_value.specs.Fault.{Fault}
use Rattle.dynamo_ser.specs.Datum as datum
use Rattle.dynamo_ser.specs.Datum.{Datum, Fields}
use Rattle.dynamo_de.specs.Answer.{Answer, After}
use Rattle.dynamo_de.specs.Fields.{read_fields, LeadsTo}
use Rattle.dynamo_de.specs.Ignored.{read_ignored}
use Rattle.dynamo_de.specs.Source.{Source, Entry, attribute, key_text}
use Rattle.dynamo_shape.specs.Read.{read, into}
use Rattle.dynamo_shape.specs.Shape.{FieldShapes, no_field_shapes, field_shape}
use Rattle.dynamo_shape.proofs.FieldsByName.{Slots, behind, fill, empty, close}
use Rattle.dynamo_record.specs.Listed.{IfRead, Holds}
use Rattle.dynamo_record.specs.Records.{AboutRecord, record_fields, IsAlike, place_in}

-- the fields from this place on
abbrev pub fields_from : ℕ → FieldShapes → FieldShapes
fields_from zero fs = fs
fields_from (suc i) no_field_shapes = no_field_shapes
fields_from (suc i) (field_shape name s d fs) = fields_from i fs

-- the first of these is read; where there is none, the source is ignored
abbrev pub read_one : FieldShapes → Source → Answer Datum
read_one no_field_shapes s = into (λ _. datum.unit) (read_ignored s)
read_one (field_shape name t d fs) s = read t s

abbrev pub fill_one : FieldShapes → ℕ → Datum → Slots → Slots
fill_one no_field_shapes i d os = os
fill_one (field_shape name s e fs) i d os = behind i (fill d) os

-- The field at a place is read.
abbrev pub read_at : ℕ → FieldShapes → Source → Answer Datum
read_at i fs s = read_one (fields_from i fs) s

abbrev pub fill_at : ℕ → FieldShapes → Datum → Slots → Slots
fill_at i fs d os = fill_one (fields_from i fs) i d os

-- what is held then tells what was read
abbrev pub FillsAt : {X : Type 0} → (X → Slots → Type 0) → ℕ → FieldShapes → Slots → X → Source
    → Result (Unit {0}) Fault → Type 0
FillsAt holds i fs os new source r = After (read_at i fs source)
    (λ d. IfRead (λ _. holds new (fill_at i fs d os))) r

-- ---- entry by entry

-- the readers of an entry's key and of its value
abbrev pub IsEntry : {D : Type 0} → (D → Source) → D × D → Entry → Type 0
IsEntry source d e = (source d.0 ≡ key_text e.0) × (source d.1 ≡ attribute e.1)

-- The entry is read as the field of its name, which is then held; under any other name it is
-- ignored.
abbrev pub Enters : {X : Type 0} → (X → Slots → Type 0) → FieldShapes → Slots → X → Entry
    → Result (Unit {0}) Fault → Type 0
Enters holds fs os new e r = FillsAt holds (place_in 0 fs e.0) fs os new (attribute e.1) r

abbrev pub entry_at : FieldShapes → ℕ → Slots → Av → Answer Slots
entry_at fs i os a = into (λ d. fill_at i fs d os) (read_at i fs (attribute a))

-- the fields are made into a datum
abbrev pub finish : (Fields → Datum) → FieldShapes → Slots → Answer Datum
finish make fs os = into make (close fs os)

abbrev pub reads_on : (Fields → Datum) → FieldShapes → Slots → List Entry → Answer Datum
reads_on make fs os es = read_fields (place_in 0 fs) (entry_at fs) (finish make fs) os es

-- what is held tells what was read, and what is answered on what is left is answered on the whole
abbrev pub SoFar : {X V : Type 0} → (Fields → Datum) → FieldShapes
    → (Datum → Result V Fault → Type 0)
    → (X → Slots → Type 0) → X → List Entry → List Entry → Type 0
SoFar make fs answers holds x left es = (os : Slots) × holds x os
    × LeadsTo answers (reads_on make fs os left) (reads_on make fs (empty fs) es)

-- the same of a described struct, whose slots are all that is held
abbrev pub StructSoFar : {V L X : Type 0} → AboutRecord V L → Holds X → X → List Entry → List Entry
    → Type 0
StructSoFar a holds x left es = SoFar (datum.struct a.name) (record_fields a) (IsAlike a)
    (λ x os. holds x os []) x left es
