-- Runs of the machine: one after another, and with one event more.
use Rattle.std.proofs.Common.{List, [], ◌∷◌, ◌++◌, Option, Some, None, IfSome, refl, subst}
use Rattle.serde.specs.Event.{Event, Log}
use Rattle.dynamo_serde.specs.Sent.{State, Takes, TakesAll}
use Rattle.dynamo_serde.specs.Called.{and_then}

pub joined : (es fs : List Event) (a b c : State) → TakesAll a es b → TakesAll b fs c → TakesAll a (es ++ fs) c
joined [] fs a b c run rest = subst (λ s. TakesAll s fs c) run rest
joined (e ∷ es) fs a b c run rest = (run.0, run.1, joined es fs run.0 b c run.2 rest)

pub parted : (es fs : List Event) (a c : State) → TakesAll a (es ++ fs) c → (b : State) × TakesAll a es b × TakesAll b fs c
parted [] fs a c run = (a, refl, run)
parted (e ∷ es) fs a c run = let p = parted es fs run.0 c run.2 in (p.0, (run.0, run.1, p.1), p.2)

-- a run with one event more, where the events are known
pub extended : (first old new : State) (log : Log) (event : Option Event)
    → IfSome event (λ e. Takes old e new) → IfSome log (λ es. TakesAll first es old) → IfSome (and_then log event) (λ es. TakesAll first es new)
extended first old new None event step run = tt
extended first old new (Some es) None step run = tt
extended first old new (Some es) (Some e) step run = joined es (e ∷ []) first old new run (new, step, refl)
