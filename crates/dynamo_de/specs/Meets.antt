-- Which results of a call are permitted.
use Rattle.std.specs.Prelude.{◌≡◌, ◌⊎◌, Result, Ok, Err}
use Rattle.dynamo_value.specs.Fault.{Fault, out_of_memory}
use Rattle.dynamo_value.specs.Refusal.{Refusal, Says, any_message}

-- a fault that keeps the promise
abbrev pub Fails : {V : Type 0} → Refusal → Result V Fault → Type 0
Fails r (Ok v) = ⊥
Fails r (Err f) = Says r f

-- a refusal by a message
abbrev pub IsMessage : {V : Type 0} → Result V Fault → Type 0
IsMessage result = Fails any_message result

-- The result is a permitted one, by the fault that an error stands for. Running out of memory is excused.
abbrev pub Meets : {V E : Type 0} → (E → Fault) → (Result V Fault → Type 0) → Result V E → Type 0
Meets fault permits (Ok v) = permits (Ok v)
Meets fault permits (Err e) = (fault e ≡ out_of_memory) ⊎ permits (Err (fault e))
