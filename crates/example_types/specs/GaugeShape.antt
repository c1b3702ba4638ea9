-- A gauge's shape, what it tells and what it reads, told as data by that shape.
use Rattle.std.specs.Prelude.{◌≡◌, refl, ℕ, pos, List, [], ◌∷◌, Option, Some, None, Result}
use Rattle.std.specs.Prelude.{bytes_eq, codes, if◌then◌else◌, string_bytes}
use Rattle.serde_dynamo.specs.About.{About}
use Rattle.serde_dynamo.specs.Answer as answer
use Rattle.serde_dynamo.specs.Answer.{Answer, Gives}
use Rattle.serde_dynamo.specs.Av.{Av}
use Rattle.serde_dynamo.specs.Visitors.{Parts, by_name, in_order}
use Rattle.serde_dynamo.specs.Datum as datum
use Rattle.serde_dynamo.specs.Datum.{Datum}
use Rattle.serde_dynamo.specs.Fault.{Fault}
use Rattle.serde_dynamo.specs.Fields.{read_first, read_fields}
use Rattle.serde_dynamo.specs.Ignored.{read_ignored}
use Rattle.serde_dynamo.specs.Integer.{u8}
use Rattle.serde_dynamo.specs.Options.{option_tells}
use Rattle.serde_dynamo.specs.Source.{Entry, attribute}
use Rattle.serde_dynamo.specs.Steps.{◌>>=◌}
use Rattle.dynamo_shape.specs.Absence.{required}
use Rattle.dynamo_shape.specs.ByValue.{SameOption}
use Rattle.dynamo_shape.specs.Laws.{IsToldByValue, ToldAlike}
use Rattle.dynamo_shape.specs.Read.{read, into, read_field, fields_by_name}
use Rattle.dynamo_shape.specs.Shape as shape
use Rattle.dynamo_shape.specs.Shape.{Shape, FieldShapes, field_shape, no_field_shapes}
use Rattle.dynamo_shape.proofs.ByHand.{read_itself}
use Rattle.dynamo_shape.proofs.ByValue.{option_told, option_alike}
use Rattle.dynamo_shape.proofs.FieldsByName as fields
use Rattle.dynamo_shape.proofs.FieldsByName.{Slots, close}
use Rattle.dynamo_shape.proofs.FieldsTold.{struct_told, first_told, last_told, struct_alike}
use Rattle.dynamo_shape.proofs.FieldsTold.{first_alike, last_alike}
use Rattle.dynamo_shape.proofs.InOrder.{ListsFields, first_field, no_more_fields}
use Rattle.dynamo_shape.proofs.Scalars.{text_told, text_alike, unsigned_told, unsigned_alike}
use Rattle.std.specs.declared.alloc.Global.{Global}
use Rattle.std.specs.declared.string.String.{String}
use Rattle.example_types.specs.declared.by_hand.Gauge.{Gauge}
use Rattle.example_types.specs.declared.by_hand.Field.{Field}

abbrev pub reading_shape : Shape
reading_shape = shape.option (shape.integer u8)

abbrev pub gauge_fields : FieldShapes
gauge_fields = field_shape (codes "id") shape.string required
    (field_shape (codes "reading") reading_shape required no_field_shapes)

abbrev pub told_id : String Global → Datum
told_id id = datum.string (string_bytes id)

abbrev pub told_reading : Option ℕ → Datum
told_reading reading = option_tells (λ n. datum.integer u8 (pos n)) reading

abbrev pub gauge_of : Datum → Datum → Datum
gauge_of id reading = datum.struct (codes "Gauge")
    (datum.field (codes "id") id (datum.field (codes "reading") reading datum.no_fields))

abbrev pub gauge_told : Gauge → Datum
gauge_told s = gauge_of (told_id s.id) (told_reading s.reading)

abbrev pub same_gauge : Gauge → Gauge → Type 0
same_gauge s t = (string_bytes s.id ≡ string_bytes t.id)
    × SameOption (λ m n. m ≡ n) s.reading t.reading

-- ---- reading

abbrev pub gauge_field : List ℕ → Field
gauge_field t = if bytes_eq t (codes "id") then Field.Id else if bytes_eq t (codes "reading") then
    Field.Reading else Field.Other

-- the data of the fields that were read so far
pub record GaugeFields : Type 0 where
  pub id : Option Datum
  pub reading : Option Datum

abbrev pub no_gauge : GaugeFields
no_gauge = record { id = None; reading = None }

abbrev slots : GaugeFields → Slots
slots u = u.id ∷ u.reading ∷ []

abbrev pub gauge_entry : Field → GaugeFields → Av → Answer GaugeFields
gauge_entry Field.Id u a = read shape.string (attribute a)
    >>= λ d. answer.value (record { id = Some d; reading = u.reading })
gauge_entry Field.Reading u a = read reading_shape (attribute a)
    >>= λ d. answer.value (record { id = u.id; reading = Some d })
gauge_entry Field.Other u a = read_ignored (attribute a) >>= λ _. answer.value u

-- a missing reading is none, and a missing name is refused
abbrev pub finish_gauge : GaugeFields → Answer Datum
finish_gauge u = into (datum.struct (codes "Gauge")) (close gauge_fields (slots u))

abbrev pub gauge_parts : Parts → Answer Datum
gauge_parts (by_name es) = read_fields gauge_field gauge_entry finish_gauge no_gauge es
gauge_parts (in_order ss) = read_first (read shape.string) ss
    (λ id ss. read_first (read reading_shape) ss (λ reading _. answer.value (gauge_of id reading)))

abbrev pub gauge_from_parts : Parts → Result Gauge Fault → Type 0
gauge_from_parts p r = Gives gauge_told (gauge_parts p) r

-- ---- reading by the shape

reads : fields.Reads gauge_entry slots 0 gauge_fields gauge_field
reads =
    fields.known gauge_entry slots 0 (codes "id") shape.string required _ Field.Id _ (read shape.string) (λ d. d)
    (λ d u. record { id = Some d; reading = u.reading }) (read_itself shape.string) (λ u a. refl) (λ d u. refl)
    (fields.known gauge_entry slots 1 (codes "reading") reading_shape required _ Field.Reading _ (read reading_shape) (λ d. d)
    (λ d u. record { id = u.id; reading = Some d }) (read_itself reading_shape) (λ u a. refl) (λ d u. refl)
    (fields.unknown gauge_entry slots 2 Field.Other (λ u a. refl) (λ u. refl)))

pub gauge_named : (es : List Entry)
    → gauge_parts (by_name es)
    ≡ into (datum.struct (codes "Gauge")) (fields_by_name gauge_fields (read_field gauge_fields) es)
gauge_named = fields.all_named gauge_entry slots gauge_field gauge_fields finish_gauge
    (datum.struct (codes "Gauge")) (refl, (refl, tt)) reads (λ u. refl) no_gauge refl

pub gauge_listed : ListsFields gauge_fields (λ ss. gauge_parts (in_order ss))
    (datum.struct (codes "Gauge"))
gauge_listed =
    first_field (codes "id") shape.string required _ (read shape.string) (λ d. d) _ (datum.struct (codes "Gauge")) (read_itself shape.string) (λ id.
    first_field (codes "reading") reading_shape required _ (read reading_shape) (λ d. d) _ _ (read_itself reading_shape) (λ reading.
    no_more_fields _))

pub gauge_by_value : IsToldByValue (shape.struct (codes "Gauge") gauge_fields) gauge_told same_gauge
gauge_by_value =
    struct_told (codes "Gauge") gauge_fields _ same_gauge
    (first_told (codes "id") _ _ _ (λ (s : Gauge). s.id) _ _ _ _ refl (text_told string_bytes)
    (last_told (codes "reading") _ _ (λ (s : Gauge). s.reading) _ _ (option_told (shape.integer u8) _ _ (unsigned_told u8))))

pub gauge_alike : ToldAlike (shape.struct (codes "Gauge") gauge_fields) gauge_told same_gauge
gauge_alike =
    struct_alike (codes "Gauge") gauge_fields _ same_gauge
    (first_alike (codes "id") _ _ _ (λ (s : Gauge). s.id) _ _ _ _ refl (text_alike string_bytes)
    (last_alike (codes "reading") _ _ (λ (s : Gauge). s.reading) _ _ (option_alike (shape.integer u8) _ _ (unsigned_alike u8))))

abbrev pub about_gauge : About Gauge
about_gauge = record {
  shape = shape.struct (codes "Gauge") gauge_fields;
  tells = gauge_told;
  same = same_gauge;
  told_by_value = gauge_by_value;
  told_alike = gauge_alike;
}
