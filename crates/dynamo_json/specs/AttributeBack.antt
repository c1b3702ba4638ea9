-- Attribute values and items that are written as values of a program, by their DynamoDB JSON, and
-- read back.
use Rattle.std.specs.Prelude.{◌≡◌, Ok}
use Rattle.dynamo_value.specs.Av.{Av, Members}
use Rattle.dynamo_value.specs.HasBytes.{HasBytes, MembersHaveBytes}
use Rattle.dynamo_value.specs.Item.{item_view}
use Rattle.dynamo_value.specs.View.{view}
use Rattle.dynamo_value.specs.declared.attribute_value.AttributeValue.{AttributeValue}
use Rattle.dynamo_value.specs.declared.item.Item.{Item}
use Rattle.dynamo_ser.specs.AttributeDatum.{attribute_datum, item_datum}
use Rattle.dynamo_ser.specs.Datum.{Datum}
use Rattle.dynamo_de.specs.ReadAttribute.{read_attribute, read_item}
use Rattle.dynamo_write.specs.Written.{written}
use Rattle.dynamo_json.specs.AttributeTells.{Tells, ItemTells}
use Rattle.dynamo_json.specs.Json.{json_of, item_json}
use Rattle.dynamo_json.specs.KeyOrder.{InOrder, ItemInOrder}
use Rattle.dynamo_json.specs.KeysDiffer.{KeysDiffer, ItemKeysDiffer}
use Rattle.dynamo_json.specs.Plain.{plain}

-- Each attribute value tells a datum.
abbrev pub TellsSome : Type 0
TellsSome = (a : Av) → (d : Datum) × Tells a d

-- What a value of a program tells is among what its attribute value tells, and the maps of that are
-- in order.
abbrev pub TellsItsDatum : Type 0
TellsItsDatum = (v : AttributeValue) → KeysDiffer v → Tells (view v) (attribute_datum v)

abbrev pub ViewsInOrder : Type 0
ViewsInOrder = (v : AttributeValue) → InOrder (view v)

-- The datum is written as an attribute value; that is read as this one alone; its plain JSON is the
-- DynamoDB JSON of this one.
abbrev pub AttributeBack : Av → Datum → Type 0
AttributeBack a d = (e : Av) × (written d ≡ Ok e) × (read_attribute e ≡ Ok a)
    × (plain d ≡ Ok (json_of a))

abbrev pub EachDatumBack : Type 0
EachDatumBack = (a : Av) (d : Datum) → HasBytes a → InOrder a → Tells a d → AttributeBack a d

-- ---- the same of items

abbrev pub ItemTellsSome : Type 0
ItemTellsSome = (members : Members) → (d : Datum) × ItemTells members d

abbrev pub TellsItsItem : Type 0
TellsItsItem = (item : Item) → ItemKeysDiffer item → ItemTells (item_view item) (item_datum item)

abbrev pub ItemViewsInOrder : Type 0
ItemViewsInOrder = (item : Item) → ItemInOrder (item_view item)

abbrev pub ItemBack : Members → Datum → Type 0
ItemBack members d = (e : Av) × (written d ≡ Ok e) × (read_item e ≡ Ok members)
    × (plain d ≡ Ok (item_json members))

abbrev pub EachItemDatumBack : Type 0
EachItemDatumBack =
    (members : Members) (d : Datum) → MembersHaveBytes members → ItemInOrder members → ItemTells members d → ItemBack members d
