-- The square: writing a datum directly, and writing its plain JSON value, agree.
use Rattle.std.specs.Prelude.{◌≡◌, ℤ, true, Result, Ok, Err, None}
use Rattle.serde_json.specs.Data.{Data}
use Rattle.dynamo_value.specs.Av.{Av}
use Rattle.dynamo_value.specs.Fault.{Fault}
use Rattle.dynamo_value.specs.Integer.{IntegerKind, i128, u128}
use Rattle.dynamo_ser.specs.Datum as datum
use Rattle.dynamo_ser.specs.Datum.{Datum}
use Rattle.dynamo_ser.specs.JsonValue.{json_datum}
use Rattle.dynamo_de.specs.Number.{fits}
use Rattle.dynamo_write.specs.Set.{set_kind}
use Rattle.dynamo_write.specs.Written.{written}
use Rattle.dynamo_json.specs.Plain.{plain, in_64_bits}

-- an integer is in the range of its kind; a wide one is held by a u64 or an i64
abbrev pub SquareInteger : IntegerKind → ℤ → Type 0
SquareInteger i128 z = in_64_bits z ≡ true
SquareInteger u128 z = in_64_bits z ≡ true
SquareInteger kind z = fits kind z ≡ true

-- The data of the square: without byte strings, without newtype structs named by the symbol of a
-- kind of sets, and without integers of 128 bits, outside of map keys, that neither a u64 nor an
-- i64 holds.
abbrev mutual
  pub InSquare : Datum → Type 0
  InSquare (datum.integer kind z) = SquareInteger kind z
  InSquare (datum.bytes bytes) = ⊥
  InSquare (datum.some content) = InSquare content
  InSquare (datum.newtype_struct name content) = (set_kind name ≡ None) × InSquare content
  InSquare (datum.newtype_variant variant content) = InSquare content
  InSquare (datum.seq ds) = ElementsInSquare ds
  InSquare (datum.tuple ds) = ElementsInSquare ds
  InSquare (datum.tuple_struct name ds) = ElementsInSquare ds
  InSquare (datum.tuple_variant variant ds) = ElementsInSquare ds
  InSquare (datum.map ps) = PairsInSquare ps
  InSquare (datum.struct name fs) = FieldsInSquare fs
  InSquare (datum.struct_variant variant fs) = FieldsInSquare fs
  InSquare _ = Unit {0}

  pub ElementsInSquare : datum.Elements → Type 0
  ElementsInSquare datum.no_elements = Unit {0}
  ElementsInSquare (datum.element d ds) = InSquare d × ElementsInSquare ds

  pub PairsInSquare : datum.Pairs → Type 0
  PairsInSquare datum.no_pairs = Unit {0}
  PairsInSquare (datum.pair k d ps) = InSquare d × PairsInSquare ps

  pub FieldsInSquare : datum.Fields → Type 0
  FieldsInSquare datum.no_fields = Unit {0}
  FieldsInSquare (datum.field name d fs) = InSquare d × FieldsInSquare fs

-- both are values, in this relation, or both are the same fault
abbrev pub AgreeBy : {A B : Type 0} → (A → B → Type 0) → Result A Fault → Result B Fault → Type 0
AgreeBy R (Ok x) (Ok y) = R x y
AgreeBy R (Err f) (Err g) = f ≡ g
AgreeBy R _ _ = ⊥

-- the JSON value is written as this attribute value
abbrev pub WritesAs : Data → Av → Type 0
WritesAs j a = written (json_datum j) ≡ Ok a

-- Plain JSON and the attribute value are both values or the same fault; where they are values, the
-- plain JSON value is written as the attribute value.
abbrev pub IsSquare : Datum → Type 0
IsSquare d = AgreeBy WritesAs (plain d) (written d)

-- the JSON value is written
abbrev pub IsWritten : Data → Type 0
IsWritten j = (a : Av) × WritesAs j a
