-- What reading gives by its rule, and which results of a call agree with it.
use Rattle.std.specs.Prelude.{◌≡◌, Option, Some, None, Result, Ok, Err}
use Rattle.dynamo_value.specs.Fault.{Fault}
use Rattle.dynamo_value.specs.Refusal as refusal
use Rattle.dynamo_value.specs.Refusal.{Refusal, any_message}
use Rattle.dynamo_de.specs.Meets.{Fails}

-- A value, or what is promised of the fault: which fault it is, or no more than that it is a message, since the texts of the
-- refusals that types make are not promised.
abbrev pub Answer : Type 0 → Type 0
Answer A = Result A Refusal

abbrev pub value : {A : Type 0} → A → Answer A
value x = Ok x

abbrev pub fault : {A : Type 0} → Fault → Answer A
fault f = Err (refusal.fault f)

abbrev pub refused : {A : Type 0} → Answer A
refused = Err any_message

-- the value where there is one, else the answer
abbrev pub value_or : {A : Type 0} → Option A → Answer A → Answer A
value_or (Some x) otherwise = Ok x
value_or None otherwise = otherwise

-- what comes after a value, or a fault that keeps the promise
abbrev pub After : {A V : Type 0} → Answer A → (A → Result V Fault → Type 0) → Result V Fault → Type 0
After (Ok x) next result = next x result
After (Err r) next result = Fails r result

-- the value, as `seen` tells it
abbrev pub Is : {A V : Type 0} → (V → A) → A → Result V Fault → Type 0
Is seen x (Ok v) = seen v ≡ x
Is seen x (Err f) = ⊥

-- the value, as `seen` tells it, or a fault that keeps the promise
abbrev pub Gives : {A V : Type 0} → (V → A) → Answer A → Result V Fault → Type 0
Gives seen answer result = After answer (Is seen) result
