-- What a call answers that says where its error was met.
use Rattle.std.specs.Prelude.{Result, Ok, Err}
use Rattle.dynamo_place.specs.declared.located_error.LocatedError.{LocatedError}

-- the answer without the place
abbrev pub without_place : {A E : Type 0} → Result A (LocatedError E) → Result A E
without_place (Ok value) = Ok value
without_place (Err e) = Err e.error
