-- What the readers answer without a request for memory. That of an owned attribute value asks for
-- memory for the entries of a map alone, which it lists in the order of their keys. That of a lent
-- one also copies what it hands on.
use Rattle.std.specs.Prelude.{◌≡◌, ◌⊎◌, Result, Ok, Err}
use Rattle.dynamo_value.specs.Fault.{failed_to_parse_int, failed_to_parse_float}
use Rattle.dynamo_value.specs.Kind.{fault_of}
use Rattle.dynamo_value.specs.declared.error.ErrorImpl.{ErrorImpl}
use Rattle.dynamo_de.specs.Shown.{Shown}
use Rattle.dynamo_de.specs.Showing as showing

-- An error is the very fault, and never out of memory in its place.
abbrev pub RefusesOutright : {V : Type 0} → Shown → Result V ErrorImpl → Type 0
RefusesOutright shown (Ok v) = Unit {0}
RefusesOutright shown (Err e) = shown ≡ Err (fault_of e)

abbrev pub ShowsEntries : Shown → Type 0
ShowsEntries (Ok (showing.entries es)) = Unit {0}
ShowsEntries _ = ⊥

-- the same, unless entries are shown
abbrev pub OutrightButEntries : {V : Type 0} → Shown → Result V ErrorImpl → Type 0
OutrightButEntries shown (Ok v) = Unit {0}
OutrightButEntries shown (Err e) = (shown ≡ Err (fault_of e)) ⊎ ShowsEntries shown

-- a string, a byte string, the string of a number that no 64-bit integer holds, the entries of a
-- map, or an error that holds the string that is no number
abbrev pub ShowsCopy : Shown → Type 0
ShowsCopy (Ok (showing.text t)) = Unit {0}
ShowsCopy (Ok (showing.bytes b)) = Unit {0}
ShowsCopy (Ok (showing.number_text t)) = Unit {0}
ShowsCopy (Ok (showing.entries es)) = Unit {0}
ShowsCopy (Err (failed_to_parse_int t)) = Unit {0}
ShowsCopy (Err (failed_to_parse_float t)) = Unit {0}
ShowsCopy _ = ⊥

-- the same, unless what is shown is copied or listed
abbrev pub OutrightButCopies : {V : Type 0} → Shown → Result V ErrorImpl → Type 0
OutrightButCopies shown (Ok v) = Unit {0}
OutrightButCopies shown (Err e) = (shown ≡ Err (fault_of e)) ⊎ ShowsCopy shown
