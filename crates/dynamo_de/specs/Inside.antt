-- What lies inside of what a source shows where it is ignored.
use Rattle.std.specs.Prelude.{◌≡◌, ◌⊎◌, List, Result, Ok, Err}
use Rattle.dynamo_value.specs.Fault.{Fault, out_of_memory}
use Rattle.dynamo_de.specs.Shown.{Shown}
use Rattle.dynamo_de.specs.Showing as showing
use Rattle.dynamo_de.specs.Source.{Source, Entry}
use Rattle.dynamo_de.specs.declared.showing.Inside as declared
use Rattle.dynamo_de.specs.declared.showing.Inside.TheVariants as inside

-- the elements of a sequence, the entries of a map, and of anything else nothing
pub data Inside : Type 0 where
  nothing : Inside
  elements : List Source → Inside
  entries : List Entry → Inside

abbrev pub inside_shown : Shown → Result Inside Fault
inside_shown (Err f) = Err f
inside_shown (Ok (showing.sequence ss)) = Ok (elements ss)
inside_shown (Ok (showing.entries es)) = Ok (entries es)
inside_shown (Ok _) = Ok nothing

-- by what the reader tells of elements and entries
abbrev pub inside_seen : {L M : Type 0} → (L → List Source) → (M → List Entry) → declared.Inside L M → Inside
inside_seen of_elements of_entries inside.Nothing = nothing
inside_seen of_elements of_entries (inside.Elements l) = elements (of_elements l)
inside_seen of_elements of_entries (inside.Entries m) = entries (of_entries m)

-- this lies inside, or the source refuses by exactly this fault
abbrev pub ShowsInside : {L M E : Type 0} → (E → Fault) → (L → List Source) → (M → List Entry) → Shown → Result (declared.Inside L M) E → Type 0
ShowsInside fault of_elements of_entries shown (Ok i) = inside_shown shown ≡ Ok (inside_seen of_elements of_entries i)
ShowsInside fault of_elements of_entries shown (Err e) = (fault e ≡ out_of_memory) ⊎ (inside_shown shown ≡ Err (fault e))
