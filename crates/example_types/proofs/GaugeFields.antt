-- The fields of a gauge, read in order and by name.
use Rattle.std.proofs.Common.{◌≡◌, ◌⊎◌, ℕ, pos, List, Option, Some, None, Result, Ok, Err, String, Global, length, ◌<◌, refl}
use Rattle.std.specs.Prelude.{string_bytes}
use Rattle.dynamo_value.specs.Fault.{Fault, out_of_memory}
use Rattle.dynamo_value.specs.Integer.{u8}
use Rattle.serde_dynamo.specs.Datum as datum
use Rattle.serde_dynamo.specs.Datum.{Datum}
use Rattle.dynamo_de.specs.Access.{NextElement, MapLeft, NextKey, NextValue}
use Rattle.dynamo_de.specs.Answer.{Answer, After, Is, Gives}
use Rattle.dynamo_de.specs.Reading.{read_content, read_string, read_integer}
use Rattle.dynamo_de.specs.Fields.{NamesOne, read_first, read_fields, LeadsTo}
use Rattle.dynamo_de.specs.Ignored.{read_ignored}
use Rattle.dynamo_de.specs.Meets.{IsMessage}
use Rattle.dynamo_de.specs.Reads.{ReadsOption}
use Rattle.dynamo_de.specs.Source.{Source, Entry}
use Rattle.dynamo_de.specs.declared.ignored_any.IgnoredAny.{IgnoredAny}
use Rattle.dynamo_de.proofs.Fields as fields
use Rattle.dynamo_de.proofs.Fields.{element_read, element_more, field_read, field_fails, fields_end, entry_falls, fields_start, value_more}
use Rattle.dynamo_shape.proofs.ByHand.{ReadsTold, scalar_told, option_told}
use Rattle.dynamo_shape.specs.Read.{read}
use Rattle.dynamo_shape.specs.Shape as shape
use Rattle.example_types.specs.GaugeShape.{reading_shape, told_id, told_reading, gauge_told, gauge_field, gauge_entry, finish_gauge, no_gauge, GaugeFields}
use Rattle.example_types.specs.declared.by_hand.Gauge.{Gauge}
use Rattle.example_types.specs.declared.by_hand.Field.{Field}

-- what the types of the two fields read
abbrev pub ReadsId : Source → Result (String Global) Fault → Type 0
ReadsId s r = Gives string_bytes (read_string s) r

abbrev pub ReadsReading : Source → Result (Option ℕ) Fault → Type 0
ReadsReading s r = After (read_content s) (ReadsOption (λ s. Gives pos (read_integer u8 s))) r

id_told : ReadsTold shape.string told_id ReadsId
id_told = scalar_told shape.string string_bytes datum.string read_string (λ s. refl)

reading_told : ReadsTold reading_shape told_reading ReadsReading
reading_told = option_told (shape.integer u8) (λ n. datum.integer u8 (pos n)) (λ s. Gives pos (read_integer u8 s)) (scalar_told (shape.integer u8) pos (datum.integer u8) (read_integer u8) (λ s. refl))

-- ---- in order

module _ {B V E : Type 0} (fault : E → Fault) (left new : List Source) (next : B → Result V Fault → Type 0) where
  pub id_element : (rest : Datum → List Source → Answer B) (v : String Global) (r : Result V Fault) → NextElement fault ReadsId left new (Ok (Some v)) → After (rest (told_id v) new) next r → After (read_first (read shape.string) left rest) next r
  id_element rest v r h k = element_read fault told_id (read shape.string) rest next left new v r (element_more fault _ (λ s. Gives told_id (read shape.string s)) id_told left new (Ok (Some v)) h) k

  pub id_lacks : (rest : Datum → List Source → Answer B) (f : Fault) → NextElement {V = String Global} fault ReadsId left new (Ok None) → IsMessage {V = V} (Err f) → After (read_first (read shape.string) left rest) next (Err f)
  id_lacks rest f h m = fields.element_lacks fault told_id (read shape.string) rest next left new f (element_more fault _ (λ s. Gives told_id (read shape.string s)) id_told left new (Ok None) h) m

  pub id_fails : (rest : Datum → List Source → Answer B) (e : E) → NextElement {V = String Global} fault ReadsId left new (Err e) → (fault e ≡ out_of_memory) ⊎ After (read_first (read shape.string) left rest) next (Err (fault e))
  id_fails rest e h = fields.element_fails fault told_id (read shape.string) rest next left new e (element_more fault _ (λ s. Gives told_id (read shape.string s)) id_told left new (Err e) h)

  pub reading_element : (rest : Datum → List Source → Answer B) (v : Option ℕ) (r : Result V Fault) → NextElement fault ReadsReading left new (Ok (Some v)) → After (rest (told_reading v) new) next r → After (read_first (read reading_shape) left rest) next r
  reading_element rest v r h k = element_read fault told_reading (read reading_shape) rest next left new v r (element_more fault _ (λ s. Gives told_reading (read reading_shape s)) reading_told left new (Ok (Some v)) h) k

  pub reading_lacks : (rest : Datum → List Source → Answer B) (f : Fault) → NextElement {V = Option ℕ} fault ReadsReading left new (Ok None) → IsMessage {V = V} (Err f) → After (read_first (read reading_shape) left rest) next (Err f)
  reading_lacks rest f h m = fields.element_lacks fault told_reading (read reading_shape) rest next left new f (element_more fault _ (λ s. Gives told_reading (read reading_shape s)) reading_told left new (Ok None) h) m

  pub reading_fails : (rest : Datum → List Source → Answer B) (e : E) → NextElement {V = Option ℕ} fault ReadsReading left new (Err e) → (fault e ≡ out_of_memory) ⊎ After (read_first (read reading_shape) left rest) next (Err (fault e))
  reading_fails rest e h = fields.element_fails fault told_reading (read reading_shape) rest next left new e (element_more fault _ (λ s. Gives told_reading (read reading_shape s)) reading_told left new (Err e) h)

-- ---- by name

abbrev pub Leads : Option Datum → Option Datum → List Entry → List Entry → Type 0
Leads id reading l es = LeadsTo (Is gauge_told) (read_fields gauge_field gauge_entry finish_gauge (record { id = id; reading = reading }) l) (read_fields gauge_field gauge_entry finish_gauge no_gauge es)

abbrev pub Whole : List Entry → Result Gauge Fault → Type 0
Whole es r = After (read_fields gauge_field gauge_entry finish_gauge no_gauge es) (Is gauge_told) r

pub starts : (es : List Entry) → Leads None None es es
starts es = fields_start (Is gauge_told) (read_fields gauge_field gauge_entry finish_gauge no_gauge es)

module _ {E : Type 0} (fault : E → Fault) (es : List Entry) (old new : MapLeft) (id reading : Option Datum) where
  abbrev so_far : GaugeFields
  so_far = record { id = id; reading = reading }

  pub id_read : (last : MapLeft) (v : String Global) → Leads id reading old.entries es → NextKey fault (NamesOne gauge_field) old new (Ok (Some Field.Id)) → NextValue fault ReadsId new last (Ok v) → Leads (Some (told_id v)) reading last.entries es
  id_read last v h k w = field_read fault gauge_field gauge_entry finish_gauge (Is gauge_told) es no_gauge so_far old new told_id (read shape.string) (λ d. record { id = Some d; reading = reading }) Field.Id last v (λ _. refl) h k (value_more fault _ (λ s. Gives told_id (read shape.string s)) id_told new last (Ok v) w)

  pub id_refused : (last : MapLeft) (x : E) → Leads id reading old.entries es → NextKey fault (NamesOne gauge_field) old new (Ok (Some Field.Id)) → NextValue {V = String Global} fault ReadsId new last (Err x) → (fault x ≡ out_of_memory) ⊎ Whole es (Err (fault x))
  id_refused last x h k w = field_fails fault gauge_field gauge_entry finish_gauge (Is gauge_told) es no_gauge so_far old new {T = String Global} told_id (read shape.string) (λ d. record { id = Some d; reading = reading }) Field.Id last x (λ _. refl) h k (value_more fault _ (λ s. Gives told_id (read shape.string s)) id_told new last (Err x) w)

  pub reading_read : (last : MapLeft) (v : Option ℕ) → Leads id reading old.entries es → NextKey fault (NamesOne gauge_field) old new (Ok (Some Field.Reading)) → NextValue fault ReadsReading new last (Ok v) → Leads id (Some (told_reading v)) last.entries es
  reading_read last v h k w = field_read fault gauge_field gauge_entry finish_gauge (Is gauge_told) es no_gauge so_far old new told_reading (read reading_shape) (λ d. record { id = id; reading = Some d }) Field.Reading last v (λ _. refl) h k (value_more fault _ (λ s. Gives told_reading (read reading_shape s)) reading_told new last (Ok v) w)

  pub reading_refused : (last : MapLeft) (x : E) → Leads id reading old.entries es → NextKey fault (NamesOne gauge_field) old new (Ok (Some Field.Reading)) → NextValue {V = Option ℕ} fault ReadsReading new last (Err x) → (fault x ≡ out_of_memory) ⊎ Whole es (Err (fault x))
  reading_refused last x h k w = field_fails fault gauge_field gauge_entry finish_gauge (Is gauge_told) es no_gauge so_far old new {T = Option ℕ} told_reading (read reading_shape) (λ d. record { id = id; reading = Some d }) Field.Reading last x (λ _. refl) h k (value_more fault _ (λ s. Gives told_reading (read reading_shape s)) reading_told new last (Err x) w)

  pub other_read : (last : MapLeft) (v : IgnoredAny) → Leads id reading old.entries es → NextKey fault (NamesOne gauge_field) old new (Ok (Some Field.Other)) → NextValue fault (λ s. Gives (λ _. tt) (read_ignored s)) new last (Ok v) → Leads id reading last.entries es
  other_read last v h k w = field_read fault gauge_field gauge_entry finish_gauge (Is gauge_told) es no_gauge so_far old new (λ _. tt) read_ignored (λ _. so_far) Field.Other last v (λ _. refl) h k w

  pub other_refused : (last : MapLeft) (x : E) → Leads id reading old.entries es → NextKey fault (NamesOne gauge_field) old new (Ok (Some Field.Other)) → NextValue {V = IgnoredAny} fault (λ s. Gives (λ _. tt) (read_ignored s)) new last (Err x) → (fault x ≡ out_of_memory) ⊎ Whole es (Err (fault x))
  other_refused last x h k w = field_fails fault gauge_field gauge_entry finish_gauge (Is gauge_told) es no_gauge so_far old new {T = IgnoredAny} (λ _. tt) read_ignored (λ _. so_far) Field.Other last x (λ _. refl) h k w

  pub key_lacks : (x : E) → NextKey {V = Field} fault (NamesOne gauge_field) old new (Err x) → fault x ≡ out_of_memory
  key_lacks x k = fields.key_lacks fault gauge_field gauge_entry finish_gauge (Is {A = Datum} gauge_told) es no_gauge so_far old new x k

  pub ends : (r : Result Gauge Fault) → Leads id reading old.entries es → NextKey fault (NamesOne gauge_field) old new (Ok None) → After (finish_gauge so_far) (Is gauge_told) r → Whole es r
  ends r h k w = fields_end fault gauge_field gauge_entry finish_gauge (Is {A = Datum} gauge_told) es no_gauge so_far old new r h k w

  pub falls : {T : Type 0} (reads : Source → Result T Fault → Type 0) (f : Field) (last : MapLeft) (v : T) → NextKey fault (NamesOne gauge_field) old new (Ok (Some f)) → NextValue fault reads new last (Ok v) → length last.entries < length old.entries
  falls reads f last v k w = entry_falls fault gauge_field gauge_entry finish_gauge (Is {A = Datum} gauge_told) es no_gauge so_far old new reads f last v k w
