-- What is promised of a fault: all of it, or how its message begins, or what the message contains, or that it is a message.
use Rattle.std.specs.Prelude.{◌≡◌, ◌⊎◌, ℕ, List, ◌++◌, Result, Ok, Err, Option, Some, None}
use Rattle.dynamo_value.specs.Fault.{Fault, message, out_of_memory}

pub data Refusal : Type 0 where
  fault : Fault → Refusal
  begins contains : List ℕ → Refusal
  any_message : Refusal

-- the faults that keep the promise
abbrev pub Says : Refusal → Fault → Type 0
Says (fault f) g = g ≡ f
Says (begins text) g = (end : List ℕ) × (g ≡ message (text ++ end))
Says (contains text) g = (start : List ℕ) × (end : List ℕ) × (g ≡ message (start ++ (text ++ end)))
Says any_message g = (text : List ℕ) × (g ≡ message text)

abbrev pub SaysIf : Option Refusal → Fault → Type 0
SaysIf None f = ⊥
SaysIf (Some r) f = Says r f

-- the faults by which a call may give up: out of memory, and where there is a refusal what it says
abbrev pub Refused : Option Refusal → Fault → Type 0
Refused refusal f = (f ≡ out_of_memory) ⊎ SaysIf refusal f

abbrev pub or_refuse : {A : Type 0} → Refusal → Option A → Result A Refusal
or_refuse r (Some x) = Ok x
or_refuse r None = Err r

abbrev pub refusal_in : {A : Type 0} → Result A Refusal → Option Refusal
refusal_in (Ok x) = None
refusal_in (Err r) = Some r
