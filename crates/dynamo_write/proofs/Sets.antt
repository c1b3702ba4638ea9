-- The set of what is taken so far and what follows, which the loop over a list's elements keeps.
use Rattle.std.proofs.Common.{ℕ, List, ◌++◌, Result, Ok}
use Rattle.dynamo_value.specs.Av as av
use Rattle.dynamo_value.specs.Av.{Av}
use Rattle.dynamo_value.specs.Fault.{Fault}
use Rattle.dynamo_value.specs.Steps.{◌>>=◌}
use Rattle.dynamo_ser.specs.Symbols as symbols
use Rattle.dynamo_write.specs.Set.{set_elements, set_of}
use Rattle.dynamo_write.specs.declared.set.SetKind.{SetKind}
use Rattle.dynamo_write.specs.declared.set.SetKind.TheVariants.{Strings, Numbers, Blobs}

abbrev pub set_from : symbols.SetKind → List (List ℕ) → av.Elements → Result Av Fault
set_from kind xs as' = set_elements kind as' >>= λ ys. Ok (set_of kind (xs ++ ys))

-- what a set of this kind has, of the texts and the byte strings that are taken
abbrev pub taken_of : SetKind → List (List ℕ) → List (List ℕ) → List (List ℕ)
taken_of Strings texts _ = texts
taken_of Numbers texts _ = texts
taken_of Blobs _ blobs = blobs
