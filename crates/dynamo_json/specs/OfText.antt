-- What is read from a text of DynamoDB JSON, where no JSON value is made: what comes next in its
-- tokens, and why it is refused.
use Rattle.std.specs.Prelude.{◌≡◌, ◌⊎◌, ℕ, List, length, map, Option, Some, None}
use Rattle.json.specs.Json as json
use Rattle.json.specs.Token.{Token}
use Rattle.serde_json.specs.Data.{Data, Items, Members, string, no_members}
use Rattle.serde_json.specs.Read.{converted, of_json, of_items, of_members, read}
use Rattle.serde_json.specs.View.{items_of}
use Rattle.dynamo_value.specs.Av.{Av}
use Rattle.dynamo_value.specs.Fault.{Fault, out_of_memory}
use Rattle.dynamo_value.specs.Kind.{fault_of}
use Rattle.dynamo_value.specs.Prefix.{Prefix}
use Rattle.dynamo_value.specs.Refusal.{Refusal, Refused}
use Rattle.dynamo_json.specs.Json.{json_of, under}
use Rattle.dynamo_json.specs.declared.text_error.TextError.{TextError}

-- A JSON value comes next in the tokens `old`, nested no deeper than so many levels, and `new`
-- follow it.
abbrev pub Stands : ℕ → List Token → Data → List Token → Type 0
Stands depth old d new = converted of_json (json.value depth old) ≡ Some (d, new)

-- The content of an attribute value comes next, under the prefix that its JSON value has.
abbrev pub ContentStands : ℕ → List Token → Prefix → Av → List Token → Type 0
ContentStands depth old p a new = (content : Data) × Stands depth old content new
    × (json_of a ≡ under p content)

-- the same of the elements of an array and the members of an object, with the bracket that closes
-- them
abbrev pub ItemsStand : ℕ → List Token → Items → List Token → Type 0
ItemsStand depth old js new = converted of_items (json.items (json.value depth) (length old) old)
    ≡ Some (js, new)

abbrev pub MembersStand : ℕ → List Token → Members → List Token → Type 0
MembersStand depth old ms new = converted (λ found. of_members found no_members)
    (json.members (json.value depth) (length old) old)
    ≡ Some (ms, new)

abbrev pub texts_json : List (List ℕ) → Items
texts_json texts = items_of (map string texts)

abbrev pub fault_in : TextError → Option Fault
fault_in (TextError.NotJson error) = None
fault_in (TextError.Fault error) = Some (fault_of error)

-- What is refused is no JSON, or JSON of no such value, by a fault that the refusal of its JSON
-- value names; or memory is.
abbrev pub RefusedText : (Data → Option Refusal) → List ℕ → Option Fault → Type 0
RefusedText refusal text None = read text ≡ None
RefusedText refusal text (Some fault) = (fault ≡ out_of_memory)
    ⊎ ((d : Data) × (read text ≡ Some d) × Refused (refusal d) fault)
