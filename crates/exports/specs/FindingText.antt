-- The printed text of why a line doesn't read as the type.
use Rattle.std.specs.Prelude.{ℕ, List, Option}
use Rattle.dynamo_place.specs.PlaceText.{located_text}
use Rattle.dynamo_value.specs.KindText.{kind_text}
use Rattle.exports.specs.ErrorText.{fault_text}
use Rattle.exports.specs.declared.finding.Problem.{Problem}

abbrev pub problem_text : Problem → Option (List ℕ)
problem_text (Problem.Line fault) = fault_text fault
problem_text (Problem.Value located) = located_text kind_text located
