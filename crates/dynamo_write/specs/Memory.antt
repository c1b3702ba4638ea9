-- The data whose writing may take memory. A boolean, none, unit and a unit struct take none, nor does `Some` around what
-- takes none.
use Rattle.dynamo_ser.specs.Datum as datum
use Rattle.dynamo_ser.specs.Datum.{Datum}

abbrev pub MayTakeMemory : Datum → Type 0
MayTakeMemory (datum.boolean b) = ⊥
MayTakeMemory datum.none = ⊥
MayTakeMemory datum.unit = ⊥
MayTakeMemory (datum.unit_struct name) = ⊥
MayTakeMemory (datum.some content) = MayTakeMemory content
MayTakeMemory _ = Unit {0}
