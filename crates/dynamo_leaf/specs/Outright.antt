-- What a reader answers that takes no memory: as any reader, but it can't be out of memory.
use Rattle.std.specs.Prelude.{◌≡◌, ℕ, List, [], Option, Result, Ok, Err}
use Rattle.dynamo_value.specs.Fault.{Fault}
use Rattle.dynamo_de.specs.Shown.{Shown}
use Rattle.dynamo_de.specs.Shows.{seen, content_of}
use Rattle.dynamo_de.specs.Source.{Source, plain_text}
use Rattle.dynamo_de.specs.declared.showing.Showing.{Showing as ShowingOf}

-- It shows exactly this, or refuses by exactly this fault. It has no elements and no entries.
abbrev pub ShowsOutright : {D L M C E : Type 0} → (E → Fault) → (D → Source) → (C → Result (List ℕ × Option Source) Fault) → Shown → Result (ShowingOf D L M C) E → Type 0
ShowsOutright fault source chosen shown (Ok s) = shown ≡ Ok (seen source (λ _. []) (λ _. []) chosen s)
ShowsOutright fault source chosen shown (Err e) = shown ≡ Err (fault e)

-- the readers of a variant's name and of its content, or the fault that asking for the variant meets
abbrev pub NamesOutright : {D E : Type 0} → (E → Fault) → (D → Source) → Result (List ℕ × Option Source) Fault → Result (D × Option D) E → Type 0
NamesOutright fault source (Ok p) (Ok r) = (source r.0 ≡ plain_text p.0) × (content_of source r.1 ≡ p.1)
NamesOutright fault source (Ok p) (Err e) = ⊥
NamesOutright fault source (Err f) (Ok r) = ⊥
NamesOutright fault source (Err f) (Err e) = fault e ≡ f
