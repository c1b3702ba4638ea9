-- The data whose plain JSON may take memory. A boolean, an integer, none, unit and a unit struct
-- take none, nor does `Some` or a newtype struct around what takes none; but an integer without a
-- JSON number takes memory for the message that says so.
use Rattle.std.specs.Prelude.{◌≡◌, false}
use Rattle.dynamo_ser.specs.Datum as datum
use Rattle.dynamo_ser.specs.Datum.{Datum}
use Rattle.dynamo_json.specs.Plain.{in_64_bits}

abbrev pub TakesMemory : Datum → Type 0
TakesMemory (datum.boolean b) = ⊥
TakesMemory (datum.integer kind z) = in_64_bits z ≡ false
TakesMemory datum.none = ⊥
TakesMemory datum.unit = ⊥
TakesMemory (datum.unit_struct name) = ⊥
TakesMemory (datum.some content) = TakesMemory content
TakesMemory (datum.newtype_struct name content) = TakesMemory content
TakesMemory _ = Unit {0}
