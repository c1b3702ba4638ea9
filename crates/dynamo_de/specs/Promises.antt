-- Reading where it is left open which of several faults is given: a value, or what is promised of the fault.
use Rattle.std.specs.Prelude.{◌≡◌, ◌⊎◌, List, [], ◌∷◌, Result, Ok, Err}
use Rattle.dynamo_value.specs.Fault.{Fault}
use Rattle.dynamo_value.specs.Refusal.{Refusal, Says}
use Rattle.dynamo_de.specs.Answer.{Answer}

-- a value, or promises of which the fault keeps one
abbrev pub Reading : Type 0 → Type 0
Reading A = Result A (List Refusal)

abbrev pub refuse : {A : Type 0} → Refusal → Reading A
refuse r = Err (r ∷ [])

-- one promise alone
abbrev pub promised : {A : Type 0} → Answer A → Reading A
promised (Ok x) = Ok x
promised (Err r) = refuse r

-- the fault keeps one of the promises
abbrev pub SaysOne : List Refusal → Fault → Type 0
SaysOne [] f = ⊥
SaysOne (r ∷ rs) f = Says r f ⊎ SaysOne rs f

-- the value, as `seen` tells it; a fault that keeps one of the promises
abbrev pub Agrees : {A V : Type 0} → (V → A) → Reading A → Result V Fault → Type 0
Agrees seen (Ok x) (Ok v) = seen v ≡ x
Agrees seen (Ok x) (Err f) = ⊥
Agrees seen (Err rs) (Ok v) = ⊥
Agrees seen (Err rs) (Err f) = SaysOne rs f
