-- The events of a datum of the library's own data model, as serde's impls and derives send them: so
-- a value of either library stands for one attribute value.
use Rattle.std.specs.Prelude.{◌≡◌, ℕ, ℤ, pos, negsuc, ◌+◌, List, [], ◌∷◌, ◌++◌, Option, Some, None}
use Rattle.serde.specs.Event as event
use Rattle.serde.specs.Event.{Event, Log, seq_begins, seq_ends, map_begins, map_ends, field_key}
use Rattle.serde.specs.Event.{variant_key, key_begins, key_ends}
use Rattle.serde.specs.declared.name.Case.TheVariants.{AsIs}
use Rattle.dynamo_ser.specs.Symbols.{SetKind}
use Rattle.dynamo_ser.specs.Datum as datum
use Rattle.dynamo_ser.specs.Datum.{Datum, Elements, Pairs, Fields, IntegerKind, i8, i16, i32, i64}
use Rattle.dynamo_ser.specs.Datum.{i128, u8, u16, u32, u64, u128}
use Rattle.dynamo_write.specs.Set.{set_kind}
use Rattle.dynamo_serde.specs.Symbol.{named}

abbrev pub natural : ℤ → Event
natural (pos n) = event.unsigned n
natural (negsuc n) = event.signed (negsuc n)

-- an integer by whether its type is signed
abbrev pub integer_event : IntegerKind → ℤ → Event
integer_event i8 z = event.signed z
integer_event i16 z = event.signed z
integer_event i32 z = event.signed z
integer_event i64 z = event.signed z
integer_event i128 z = event.signed z
integer_event u8 z = natural z
integer_event u16 z = natural z
integer_event u32 z = natural z
integer_event u64 z = natural z
integer_event u128 z = natural z

abbrev pub elements_count : Elements → ℕ
elements_count datum.no_elements = 0
elements_count (datum.element d ds) = elements_count ds + 1

abbrev pub pairs_count : Pairs → ℕ
pairs_count datum.no_pairs = 0
pairs_count (datum.pair k d ps) = pairs_count ps + 1

abbrev pub fields_count : Fields → ℕ
fields_count datum.no_fields = 0
fields_count (datum.field name d fs) = fields_count fs + 1

abbrev pub in_seq : ℕ → List Event → List Event
in_seq n es = seq_begins (Some n) ∷ (es ++ seq_ends ∷ [])

abbrev pub in_map : ℕ → List Event → List Event
in_map n es = map_begins (Some n) ∷ (es ++ map_ends ∷ [])

-- the one member of a map
abbrev pub under : List ℕ → List Event → List Event
under name es = in_map 1 (variant_key name AsIs ∷ es)

-- a set is sent as a map of one member, whose key is the set's symbol; any other newtype as its
-- content
abbrev pub newtype : Option SetKind → List ℕ → List Event → List Event
newtype None name es = es
newtype (Some kind) name es = under name es

abbrev mutual
  pub events : Datum → List Event
  events (datum.boolean b) = event.boolean b ∷ []
  events (datum.integer kind z) = integer_event kind z ∷ []
  events (datum.char c) = event.character c ∷ []
  events (datum.string text) = event.text text ∷ []
  events (datum.bytes bytes) = event.octets bytes ∷ []
  events datum.none = event.nothing ∷ []
  events datum.unit = event.nothing ∷ []
  events (datum.unit_struct name) = event.nothing ∷ []
  events (datum.some content) = events content
  events (datum.unit_variant variant) = event.unit_variant variant.name AsIs ∷ []
  events (datum.newtype_struct name content) = newtype (set_kind name) name (events content)
  events (datum.newtype_variant variant content) = under variant.name (events content)
  events (datum.seq ds) = in_seq (elements_count ds) (elements_events ds)
  events (datum.tuple ds) = in_seq (elements_count ds) (elements_events ds)
  events (datum.tuple_struct name ds) = in_seq (elements_count ds) (elements_events ds)
  events (datum.tuple_variant variant ds) = under variant.name
      (in_seq (elements_count ds) (elements_events ds))
  events (datum.map ps) = in_map (pairs_count ps) (pairs_events ps)
  events (datum.struct name fs) = in_map (fields_count fs) (fields_events fs)
  events (datum.struct_variant variant fs) = under variant.name
      (in_map (fields_count fs) (fields_events fs))
  events (datum.refuse text) = []

  pub elements_events : Elements → List Event
  elements_events datum.no_elements = []
  elements_events (datum.element d ds) = events d ++ elements_events ds

  pub pairs_events : Pairs → List Event
  pairs_events datum.no_pairs = []
  pairs_events (datum.pair k d ps) = (key_begins ∷ (events k ++ key_ends ∷ events d))
      ++ pairs_events ps

  pub fields_events : Fields → List Event
  fields_events datum.no_fields = []
  fields_events (datum.field name d fs) = (field_key name AsIs ∷ events d) ++ fields_events fs

-- What the events tell whole: no refusal is inside, no variant is named as a symbol, and each
-- key is a scalar, or a newtype over one.
abbrev pub IsKeyTold : Datum → Type 0
IsKeyTold (datum.boolean b) = Unit {0}
IsKeyTold (datum.integer kind z) = Unit {0}
IsKeyTold (datum.char c) = Unit {0}
IsKeyTold (datum.string text) = Unit {0}
IsKeyTold (datum.unit_variant variant) = Unit {0}
IsKeyTold (datum.newtype_struct name content) = (set_kind name ≡ None) × IsKeyTold content
IsKeyTold _ = ⊥

abbrev mutual
  pub IsTold : Datum → Type 0
  IsTold (datum.some content) = IsTold content
  IsTold (datum.newtype_struct name content) = IsTold content
  IsTold (datum.newtype_variant variant content) = (named variant.name ≡ None) × IsTold content
  IsTold (datum.seq ds) = AreTold ds
  IsTold (datum.tuple ds) = AreTold ds
  IsTold (datum.tuple_struct name ds) = AreTold ds
  IsTold (datum.tuple_variant variant ds) = (named variant.name ≡ None) × AreTold ds
  IsTold (datum.map ps) = PairsTold ps
  IsTold (datum.struct name fs) = FieldsTold fs
  IsTold (datum.struct_variant variant fs) = (named variant.name ≡ None) × FieldsTold fs
  IsTold (datum.refuse text) = ⊥
  IsTold _ = Unit {0}

  pub AreTold : Elements → Type 0
  AreTold datum.no_elements = Unit {0}
  AreTold (datum.element d ds) = IsTold d × AreTold ds

  pub PairsTold : Pairs → Type 0
  PairsTold datum.no_pairs = Unit {0}
  PairsTold (datum.pair k d ps) = IsKeyTold k × IsTold d × PairsTold ps

  pub FieldsTold : Fields → Type 0
  FieldsTold datum.no_fields = Unit {0}
  FieldsTold (datum.field name d fs) = IsTold d × FieldsTold fs

-- what a value's events are, where serde says them: those of this datum, after whatever was sent
-- before
abbrev pub Sends : (Log → Log → Type 0) → Datum → Type 0
Sends writes d = (es : List Event) (new : Log) → writes (Some es) new → new ≡ Some (es ++ events d)
