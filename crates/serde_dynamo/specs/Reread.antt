-- What writing a value and reading it back may return, apart from out of memory.
use Rattle.std.specs.Prelude.{◌≡◌, ◌⊎◌, Result, Ok, Err, MatchResult}
use Rattle.dynamo_value.specs.Av as av
use Rattle.dynamo_value.specs.Av.{Av}
use Rattle.dynamo_value.specs.Fault.{Fault}
use Rattle.dynamo_ser.specs.Datum.{Datum}
use Rattle.dynamo_write.specs.Written.{written, item_written}
use Rattle.dynamo_de.specs.Source.{Source, attribute}
use Rattle.dynamo_shape.specs.ReadsBack.{Permitted}
use Rattle.dynamo_shape.specs.Shape.{Shape}

-- the fault of writing the datum, or one that reading what was written permits
abbrev pub IsFaultOf : Shape → Datum → Fault → Type 0
IsFaultOf s d f = (written d ≡ Err f)
    ⊎ ((a : Av) × (written d ≡ Ok a) × Permitted s (attribute a) (Err f))

-- of a value with an item what reading the item may return, and else the fault of writing it
abbrev pub Stores : {T : Type 0} → (Source → Result T Fault → Type 0) → Datum → Result T Fault
    → Type 0
Stores reads d r = MatchResult (item_written d) (λ members. reads (attribute (av.M members)) r)
    (λ fault. r ≡ Err fault)
