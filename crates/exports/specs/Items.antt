-- What a line of an export gives: the item that is under `Item` of its JSON object, by the
-- definition of DynamoDB JSON.
use Rattle.std.specs.Prelude.{◌≡◌, ◌⊎◌, ℕ, List, [], Result, Ok, Err, Some, MatchOption}
use Rattle.std.specs.Prelude.{MatchResult, IsUtf8, codes}
use Rattle.std.specs.declared.vec.Vec.{Vec}
use Rattle.std.specs.declared.alloc.Global.{Global}
use Rattle.serde_json.specs.Data.{Data}
use Rattle.serde_json.specs.Find.{get}
use Rattle.serde_json.specs.Read.{read}
use Rattle.serde_json.specs.View.{view}
use Rattle.serde_json.specs.declared.value.Value.{Value}
use Rattle.dynamo_value.specs.Fault.{out_of_memory}
use Rattle.dynamo_value.specs.Item.{item_view}
use Rattle.dynamo_value.specs.Kind.{fault_of}
use Rattle.dynamo_value.specs.Refusal.{Refusal, Refused, refusal_in}
use Rattle.dynamo_value.specs.declared.error.Error.{Error}
use Rattle.dynamo_value.specs.declared.item.Item.{Item}
use Rattle.dynamo_json.specs.Parsed.{parsed_item}
use Rattle.dynamo_place.specs.Found.{steps_of}
use Rattle.exports.specs.declared.fault.Fault.{Fault}

-- memory ran out
abbrev pub IsLackOfMemory : Fault → Type 0
IsLackOfMemory (Fault.Form located) = fault_of located.error ≡ out_of_memory
IsLackOfMemory _ = ⊥

-- the fault of form with this error, of the whole
abbrev pub IsForm : Error → Fault → Type 0
IsForm error (Fault.Form located) = (located.error ≡ error) × (steps_of located.place ≡ [])
IsForm error _ = ⊥

-- a fault of form by this refusal, or memory ran out
abbrev pub IsRefusal : {A : Type 0} → Result A Refusal → Fault → Type 0
IsRefusal outcome (Fault.Form located) = Refused (refusal_in outcome) (fault_of located.error)
IsRefusal outcome _ = ⊥

-- the bytes are a text by UTF-8, and that text is JSON of this value
abbrev pub IsJson : List ℕ → Data → Type 0
IsJson bytes json = IsUtf8 bytes × (read bytes ≡ Some json)

-- no JSON, which the fault says
abbrev pub IsNotJson : List ℕ → Fault → Type 0
IsNotJson bytes (Fault.NotJson position) = (json : Data) → IsJson bytes json → ⊥
IsNotJson bytes _ = ⊥

-- the JSON value of the bytes; `NotJson` exactly where there is none; or memory ran out
abbrev pub ReadsJson : List ℕ → Result Value Fault → Type 0
ReadsJson bytes (Ok json) = IsJson bytes (view json)
ReadsJson bytes (Err fault) = IsNotJson bytes fault ⊎ IsLackOfMemory fault

-- the item under `Item`: the one that reading DynamoDB JSON gives of what is there, or its
-- refusal
abbrev pub ReadsItem : Data → Result Item Fault → Type 0
ReadsItem json r =
    MatchOption (get (codes "Item") json) (r ≡ Err Fault.NoItem)
    (λ content. MatchResult r (λ item. parsed_item content ≡ Ok (item_view item)) (IsRefusal (parsed_item content)))

-- the item of a line
abbrev pub ReadsLine : List ℕ → Result Item Fault → Type 0
ReadsLine line r =
    ((json : Data) × IsJson line json × ReadsItem json r)
    ⊎ ((fault : Fault) × (r ≡ Err fault) × (IsNotJson line fault ⊎ IsLackOfMemory fault))

-- the same of a line that was given, or the fault of one that wasn't
abbrev pub ReadsText : Result (Vec ℕ Global) Fault → Result Item Fault → Type 0
ReadsText (Ok text) r = ReadsLine text.items r
ReadsText (Err fault) r = r ≡ Err fault
