-- The conversion to a set, for the content of a newtype struct whose name is the symbol of a kind of sets. A list becomes
-- the set of its elements' contents, in order, duplicates kept; an element of another kind is a fault, and so is what
-- isn't a list.
use Rattle.std.specs.Prelude.{ℕ, List, [], ◌∷◌, Result, Ok, Err, Option, Some, None, if◌then◌else◌, bytes_eq}
use Rattle.dynamo_value.specs.Av as av
use Rattle.dynamo_value.specs.Av.{Av, Elements}
use Rattle.dynamo_value.specs.Fault.{Fault, not_setlike, string_set_expected_type, number_set_expected_type, binary_set_expected_type}
use Rattle.dynamo_value.specs.Steps.{◌>>=◌}
use Rattle.dynamo_ser.specs.Symbols.{SetKind, strings, numbers, blobs, symbol}

-- the kind of sets that a name asks for
abbrev pub set_kind : List ℕ → Option SetKind
set_kind name =
    if bytes_eq name (symbol strings) then Some strings else
    if bytes_eq name (symbol numbers) then Some numbers else
    if bytes_eq name (symbol blobs) then Some blobs else None

abbrev pub set_element : SetKind → Av → Result (List ℕ) Fault
set_element strings (av.S text) = Ok text
set_element strings _ = Err string_set_expected_type
set_element numbers (av.N text) = Ok text
set_element numbers _ = Err number_set_expected_type
set_element blobs (av.B bytes) = Ok bytes
set_element blobs _ = Err binary_set_expected_type

abbrev pub set_elements : SetKind → Elements → Result (List (List ℕ)) Fault
set_elements kind av.no_elements = Ok []
set_elements kind (av.element a as') = do
  x ← set_element kind a
  xs ← set_elements kind as'
  Ok (x ∷ xs)

abbrev pub set_of : SetKind → List (List ℕ) → Av
set_of strings xs = av.Ss xs
set_of numbers xs = av.Ns xs
set_of blobs xs = av.Bs xs

abbrev pub as_set : SetKind → Av → Result Av Fault
as_set kind (av.L as') = do
  xs ← set_elements kind as'
  Ok (set_of kind xs)
as_set kind _ = Err not_setlike

-- the content of a newtype struct of this name
abbrev pub named : Option SetKind → Av → Result Av Fault
named None a = Ok a
named (Some kind) a = as_set kind a
