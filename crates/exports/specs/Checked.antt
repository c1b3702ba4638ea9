-- What is reported of a line: the value that its item reads as, or its number and why it reads as none.
use Rattle.std.specs.Prelude.{◌≡◌, ◌⊎◌, Option, Some, None, Result, Ok, Err}
use Rattle.dynamo_value.specs.Av as av
use Rattle.dynamo_value.specs.Fault.{Fault, out_of_memory}
use Rattle.dynamo_value.specs.Item.{item_view}
use Rattle.dynamo_value.specs.Kind.{fault_of}
use Rattle.dynamo_value.specs.declared.error.Error.{Error}
use Rattle.dynamo_de.specs.Source.{Source, attribute}
use Rattle.dynamo_place.specs.declared.located_error.LocatedError.{LocatedError}
use Rattle.exports.specs.declared.lines.Line.{Line}
use Rattle.exports.specs.declared.lines.LineFault.{LineFault}
use Rattle.exports.specs.declared.finding.Finding.{Finding}
use Rattle.exports.specs.declared.finding.Problem.{Problem}

-- the item of the line is read as the type permits
abbrev pub ChecksLine : {T : Type 0} → (Source → Result T Fault → Type 0) → Line → Result T Finding
    → Type 0
ChecksLine reads line (Ok value) = reads (attribute (av.M (item_view line.item))) (Ok value)
ChecksLine reads line (Err finding) =
    (located : LocatedError Error) × (finding ≡ record { number = line.number; problem = Problem.Value located })
    × ((fault_of located.error ≡ out_of_memory)
    ⊎ reads (attribute (av.M (item_view line.item))) (Err (fault_of located.error)))

-- what is reported of a line that was given, by the fault of a broken one
abbrev pub Checks : {T : Type 0} → (Source → Result T Fault → Type 0)
    → Option (Result Line LineFault) → Option (Result T Finding) → Type 0
Checks reads None r = r ≡ None
Checks reads (Some given) None = ⊥
Checks reads (Some (Ok line)) (Some r) = ChecksLine reads line r
Checks reads (Some (Err broken)) (Some r) = r
    ≡ Err (record { number = broken.number; problem = Problem.Line broken.fault })
