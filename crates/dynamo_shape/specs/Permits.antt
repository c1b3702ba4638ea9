-- Which answers of a call reading permits.
use Rattle.std.specs.Prelude.{◌≡◌, ◌⊎◌, Result, Ok, Err, ⊤}
use Rattle.dynamo_value.specs.Fault.{Fault}
use Rattle.dynamo_value.specs.Refusal.{Says, any_message}
use Rattle.dynamo_de.specs.Answer.{Answer}

abbrev pub IsMessageFault : Fault → Type 0
IsMessageFault f = Says any_message f

-- the value, as far as `Alike` looks, or a fault that keeps the promise
abbrev pub Permits : {A : Type 0} → (A → A → Type 0) → Answer A → Result A Fault → Type 0
Permits Alike (Ok x) (Ok y) = Alike x y
Permits Alike (Err r) (Err f) = Says r f
Permits Alike _ _ = ⊥

-- the same answer, the texts of messages aside
abbrev pub SameAnswer : {A : Type 0} → (A → A → Type 0) → Result A Fault → Result A Fault → Type 0
SameAnswer Alike (Ok x) (Ok y) = Alike x y
SameAnswer Alike (Err f) (Err g) = (f ≡ g) ⊎ (IsMessageFault f × IsMessageFault g)
SameAnswer Alike _ _ = ⊥

-- two values alike, or two faults
abbrev pub FaultsOrSame : {A : Type 0} → (A → A → Type 0) → Result A Fault → Result A Fault → Type 0
FaultsOrSame Alike (Ok x) (Ok y) = Alike x y
FaultsOrSame Alike (Err f) (Err g) = ⊤
FaultsOrSame Alike _ _ = ⊥
