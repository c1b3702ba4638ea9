-- What holds of DynamoDB JSON as a whole, for every attribute value and every JSON value.
use Rattle.std.specs.Prelude.{◌≡◌, ◌↔◌, ℕ, List, Ok, IfErr, false}
use Rattle.serde_json.specs.Data.{Data}
use Rattle.serde_json.specs.View.{view}
use Rattle.serde_json.specs.declared.value.Value.{Value}
use Rattle.serde_json.specs.Written.{has_float}
use Rattle.dynamo_value.specs.Av.{Av, Members}
use Rattle.dynamo_value.specs.Fault.{Fault, message}
use Rattle.dynamo_value.specs.HasBytes.{HasBytes, MembersHaveBytes}
use Rattle.dynamo_value.specs.Refusal.{Refusal, Says}
use Rattle.dynamo_json.specs.Json.{json_of, item_json}
use Rattle.dynamo_json.specs.Parsed.{parsed, parsed_item}
use Rattle.dynamo_json.specs.Texts.{HasTexts}

-- whatever fault keeps the promise is a message
abbrev pub SaysMessage : Refusal → Type 0
SaysMessage r = (f : Fault) → Says r f → (text : List ℕ) × (f ≡ message text)

-- A JSON value is read as an attribute value exactly where it is the JSON value of it.
abbrev pub ReadsItsJson : Type 0
ReadsItsJson = (a : Av) (j : Data) → HasBytes a → HasTexts j → (parsed j ≡ Ok a) ↔ (j ≡ json_of a)

-- What that asks of a JSON value holds of each in a program.
abbrev pub HoldsTexts : Type 0
HoldsTexts = (v : Value) → HasTexts (view v)

-- No JSON value stands for two attribute values.
abbrev pub StandsForOne : Type 0
StandsForOne = (a b : Av) → HasBytes a → HasBytes b → json_of a ≡ json_of b → a ≡ b

-- What stands for no attribute value is refused by a message.
abbrev pub RefusesByMessage : Type 0
RefusesByMessage = (j : Data) → IfErr (parsed j) SaysMessage

-- No float is in the JSON value of an attribute value, so that its printed text is known.
abbrev pub WritesNoFloat : Type 0
WritesNoFloat = (a : Av) → has_float (json_of a) ≡ false

-- ---- the same of items

abbrev pub ReadsItemsExactly : Type 0
ReadsItemsExactly = (members : Members) (j : Data) → MembersHaveBytes members → HasTexts j
    → (parsed_item j ≡ Ok members) ↔ (j ≡ item_json members)

abbrev pub StandsForOneItem : Type 0
StandsForOneItem = (ms ns : Members) → MembersHaveBytes ms → MembersHaveBytes ns
    → item_json ms ≡ item_json ns → ms ≡ ns

abbrev pub RefusesItemsByMessage : Type 0
RefusesItemsByMessage = (j : Data) → IfErr (parsed_item j) SaysMessage

abbrev pub WritesItemsWithoutFloat : Type 0
WritesItemsWithoutFloat = (members : Members) → has_float (item_json members) ≡ false
