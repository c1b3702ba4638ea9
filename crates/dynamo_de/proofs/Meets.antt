-- Permitted results, one relation after another.
use Rattle.std.proofs.Common.{inl, inr, Result, Ok, Err}
use Rattle.dynamo_value.specs.Fault.{Fault}
use Rattle.dynamo_de.specs.Answer.{Answer, After, Gives}
use Rattle.dynamo_de.specs.Meets.{Meets}

-- what permits less permits as much as what permits more
pub meets_more : {V E : Type 0} (fault : E → Fault) (P Q : Result V Fault → Type 0) → ((r : Result V Fault) → P r → Q r) → (r : Result V E) → Meets fault P r → Meets fault Q r
meets_more fault P Q more (Ok v) h = more (Ok v) h
meets_more fault P Q more (Err e) h = elim h [ inl lacks ↦ inl lacks | inr permitted ↦ inr (more (Err (fault e)) permitted) ]

-- where what comes first fails, so does the whole
pub stops_before : {A V W E : Type 0} (fault : E → Fault) (seen : V → A) (next : A → Result W Fault → Type 0) (answer : Answer A) (e : E) → Meets {V = V} fault (Gives seen answer) (Err e) → Meets {V = W} fault (After answer next) (Err e)
stops_before fault seen next (Ok x) e h = elim h [ inl lacks ↦ inl lacks | inr given ↦ absurd given ]
stops_before fault seen next (Err r) e h = h
