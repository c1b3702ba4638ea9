-- What writing a value answers.
use Rattle.std.specs.Prelude.{◌≡◌, ℕ, List, Result, Ok, Err, MatchResult, ◌⊎◌, String, string_bytes}
use Rattle.std.proofs.Common.{inl, sym, ap}
use Rattle.std.specs.declared.alloc.Global.{Global}
use Rattle.dynamo_value.specs.Fault.{Fault, message, out_of_memory}
use Rattle.dynamo_value.specs.Kind.{fault_of}
use Rattle.dynamo_value.specs.declared.error.Error.{Error}
use Rattle.dynamo_ser.specs.Datum as datum
use Rattle.dynamo_ser.specs.Datum.{Datum}
use Rattle.dynamo_ser.specs.Key.{key_text}

-- a refusal because memory ran out
abbrev pub LacksMemory : {A E : Type 0} → (E → Fault) → Result A E → Type 0
LacksMemory fault r = MatchResult r (λ _. ⊥) (λ e. fault e ≡ out_of_memory)

-- one of the serializer's answers to the datum; where the value takes memory of its own (`wants`), out of memory too
abbrev pub Writes : {A E : Type 0} → (E → Fault) → Type 0 → (Datum → Result A E → Type 0) → Datum → Result A E → Type 0
Writes fault wants outcome d r = outcome d r ⊎ (wants × LacksMemory fault r)

-- the text of a key, its fault, or out of memory
abbrev pub WritesKey : Datum → Result (String Global) Error → Type 0
WritesKey k r = MatchResult r (λ text. key_text k ≡ Ok (string_bytes text)) (λ e. (key_text k ≡ Err (fault_of e)) ⊎ (fault_of e ≡ out_of_memory))

-- the refusal of a key's own implementation is handed on
pub refused_key : (text : List ℕ) (e : Error) → fault_of e ≡ message text → WritesKey (datum.refuse text) (Err e)
refused_key text e is = inl (ap Err (sym is))
