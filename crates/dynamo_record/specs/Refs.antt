-- What is written of fields by reference, in front of whatever follows.
use Rattle.std.specs.Prelude.{Result, Ok, Err}
use Rattle.dynamo_ser.specs.Datum.{Fields, Elements, elements_of}
use Rattle.dynamo_record.specs.Fields.{ConformEach, Defaults, named_fields}
use Rattle.dynamo_record.specs.Listed.{Shapes, Data}
use Rattle.dynamo_record.specs.Names.{Names}

-- The data are taken under the first of the names, and the other names are left for what follows;
-- or one is at fault, whatever follows.
abbrev pub PutsFields : {B A E X : Type 0} → (B → Fields → Result A E → Type 0) → (X → Names) → B
    → B → Names → (Defaults → Defaults) → (Data → Data) → Result X E → Type 0
PutsFields {B} {A} {E} gives seen old new names absences told (Ok left) = (gs : Defaults)
    (ds : Data) (answer : Result A E)
    → gives new (named_fields (seen left) gs ds) answer
    → gives old (named_fields names (absences gs) (told ds)) answer
PutsFields gives seen old new names absences told (Err e) = (gs : Defaults) (ds : Data)
    → gives old (named_fields names (absences gs) (told ds)) (Err e)

-- the same of elements
abbrev pub PutsElements : {B A E U : Type 0} → (B → Elements → Result A E → Type 0) → B → B
    → (Data → Data) → Result U E → Type 0
PutsElements {B} {A} {E} gives old new told (Ok u) = (ds : Data) (answer : Result A E)
    → gives new (elements_of ds) answer
    → gives old (elements_of (told ds)) answer
PutsElements gives old new told (Err e) = (ds : Data) → gives old (elements_of (told ds)) (Err e)

-- so do the data, in front of others that conform
abbrev pub ConformFront : (Shapes → Shapes) → (Data → Data) → Type 0
ConformFront shapes told = (ss : Shapes) (ds : Data) → ConformEach ss ds
    → ConformEach (shapes ss) (told ds)
