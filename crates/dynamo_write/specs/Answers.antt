-- What the serializer and its builders answer.
use Rattle.std.specs.Prelude.{◌≡◌, ℕ, List, Result, Ok, Err, MatchResult, ◌⊎◌}
use Rattle.std.proofs.Common.{inl, sym, ap}
use Rattle.dynamo_value.specs.Av.{Av}
use Rattle.dynamo_value.specs.Fault.{Fault, message, out_of_memory}
use Rattle.dynamo_value.specs.Item.{map_of}
use Rattle.dynamo_value.specs.Kind.{fault_of}
use Rattle.dynamo_value.specs.View.{view, members_view}
use Rattle.dynamo_value.specs.declared.attribute_value.AttributeValue.{AttributeValue}
use Rattle.dynamo_value.specs.declared.error.Error.{Error}
use Rattle.dynamo_value.specs.declared.item.Item.{Item}
use Rattle.dynamo_ser.specs.Datum as datum
use Rattle.dynamo_ser.specs.Datum.{Datum}
use Rattle.dynamo_write.specs.Memory.{MayTakeMemory}
use Rattle.dynamo_write.specs.Written.{written, item_written}

-- r is this value or this fault; where `wants`, it may also be out of memory
abbrev pub Answers : {A V : Type 0} → (V → A) → Type 0 → Result A Fault → Result V Error → Type 0
Answers seen wants x r = MatchResult r (λ v. x ≡ Ok (seen v)) (λ e. (x ≡ Err (fault_of e)) ⊎ (wants × (fault_of e ≡ out_of_memory)))

-- the attribute value of the datum, or its fault
abbrev pub AnswersDatum : Datum → Result AttributeValue Error → Type 0
AnswersDatum d r = Answers view (MayTakeMemory d) (written d) r

-- the item of the datum, or its fault
abbrev pub AnswersItem : Type 0 → Datum → Result Item Error → Type 0
AnswersItem wants d r = Answers (λ item. members_view (map_of item).entries) (wants ⊎ MayTakeMemory d) (item_written d) r

-- inside a list or a map, where out of memory is always possible
abbrev pub AnswersWithin : Result Av Fault → Result AttributeValue Error → Type 0
AnswersWithin x r = Answers view (Unit {0}) x r

-- an implementation's own refusal is handed on
pub refused : (text : List ℕ) (e : Error) → fault_of e ≡ message text → AnswersDatum (datum.refuse text) (Err e)
refused text e is = inl (ap Err (sym is))
