-- What the serializer of plain JSON answers.
use Rattle.std.specs.Prelude.{◌≡◌, ◌⊎◌, ℕ, List, Result, Err, MatchResult}
use Rattle.std.proofs.Common.{inl, sym, ap}
use Rattle.serde_json.specs.View.{view}
use Rattle.serde_json.specs.declared.value.Value.{Value}
use Rattle.dynamo_value.specs.Fault.{message}
use Rattle.dynamo_value.specs.Kind.{fault_of}
use Rattle.dynamo_value.specs.View as av
use Rattle.dynamo_value.specs.declared.attribute_value.AttributeValue.{AttributeValue}
use Rattle.dynamo_value.specs.declared.error.Error.{Error}
use Rattle.dynamo_ser.specs.Datum as datum
use Rattle.dynamo_ser.specs.Datum.{Datum}
use Rattle.dynamo_ser.specs.JsonValue.{json_datum}
use Rattle.dynamo_write.specs.Answers.{Answers}
use Rattle.dynamo_write.specs.Memory.{MayTakeMemory}
use Rattle.dynamo_json.specs.Plain.{plain}
use Rattle.dynamo_json.specs.PlainMemory.{TakesMemory}
use Rattle.dynamo_json.specs.ViaJson.{via_json}

-- the plain JSON value of the datum, or its fault
abbrev pub AnswersPlain : Datum → Result Value Error → Type 0
AnswersPlain d r = Answers view (TakesMemory d) (plain d) r

-- an implementation's own refusal is handed on
pub refused : (text : List ℕ) (e : Error) → fault_of e ≡ message text
    → AnswersPlain (datum.refuse text) (Err e)
refused text e is = inl (ap Err (sym is))

-- What is written by way of plain JSON, or its fault. Memory may run out where the value allocates
-- memory of its own, or where one of the two steps does.
abbrev pub AnswersViaJson : Type 0 → Datum → Result AttributeValue Error → Type 0
AnswersViaJson wants d r = Answers av.view
    (wants ⊎ TakesMemory d ⊎ MatchResult (plain d) (λ j. MayTakeMemory (json_datum j)) (λ _. ⊥))
    (via_json d) r
