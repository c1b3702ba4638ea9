-- What a value of a shaped type is written as.
use Rattle.std.specs.Prelude.{◌≡◌, Ok}
use Rattle.dynamo_value.specs.Item.{item_view}
use Rattle.dynamo_value.specs.declared.item.Item.{Item}
use Rattle.dynamo_ser.specs.Datum.{Datum}
use Rattle.dynamo_write.specs.Written.{item_written}
use Rattle.dynamo_shape.specs.Conforms.{conforms}
use Rattle.dynamo_shape.specs.Shape.{Shape}

-- the item is the one that the value is written as, and what the value tells is of the type's shape
abbrev pub IsItemOf : {T : Type 0} → Shape → (T → Datum) → T → Item → Type 0
IsItemOf shape tells value item = conforms shape (tells value)
    × (item_written (tells value) ≡ Ok (item_view item))
