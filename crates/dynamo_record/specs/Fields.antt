-- Fields in order: their shapes, what a missing one reads as, and the data that are told; and the
-- same under names.
use Rattle.std.specs.Prelude.{ℕ, suc, List, [], ◌∷◌, Option, Some, None, ⊤}
use Rattle.std.proofs.Common.{zero, Ok, Err}
use Rattle.dynamo_ser.specs.Datum.{Datum, Fields, no_fields}
use Rattle.dynamo_de.specs.Answer.{Answer, value, refused, value_or}
use Rattle.dynamo_value.specs.Steps.{◌>>=◌}
use Rattle.dynamo_de.specs.Source.{Source, Text}
use Rattle.dynamo_shape.specs.Absence.{Absence, required, put_field}
use Rattle.dynamo_shape.specs.Conforms.{conforms}
use Rattle.dynamo_shape.specs.Read.{read, missing}
use Rattle.dynamo_shape.specs.Same.{Same}
use Rattle.dynamo_shape.specs.Shape as shape
use Rattle.dynamo_shape.specs.Shape.{Shape, Shapes, no_shapes, FieldShapes, no_field_shapes}
use Rattle.dynamo_shape.specs.Shape.{field_shape}
use Rattle.dynamo_shape.proofs.FieldsByName.{Slots, first_slot, other_slots}
use Rattle.dynamo_record.specs.Names.{Names, first_name, other_names}

abbrev pub ConformEach : List Shape → List Datum → Type 0
ConformEach [] [] = ⊤
ConformEach (s ∷ ss) (d ∷ ds) = conforms s d × ConformEach ss ds
ConformEach _ _ = ⊥

-- the same data, one after another
abbrev pub SameData : List Datum → List Datum → Type 0
SameData [] [] = ⊤
SameData (d ∷ ds) (e ∷ es) = Same d e × SameData ds es
SameData _ _ = ⊥

-- each field is read, the sources in order; fewer are refused
abbrev pub read_fields : List Shape → List Source → Answer (List Datum)
read_fields [] xs = value []
read_fields (s ∷ ss) [] = refused
read_fields (s ∷ ss) (x ∷ xs) = read s x >>= λ d. read_fields ss xs >>= λ ds. value (d ∷ ds)

-- by the field of this number
abbrev pub read_nth : ℕ → List Shape → Source → Answer Datum
read_nth i [] x = refused
read_nth zero (s ∷ ss) x = read s x
read_nth (suc i) (s ∷ ss) x = read_nth i ss x

-- ---- what was read of each field so far

abbrev pub Defaults : Type 0
Defaults = List Absence

abbrev pub first_default : Defaults → Absence
first_default [] = required
first_default (d ∷ ds) = d

abbrev pub other_defaults : Defaults → Defaults
other_defaults [] = []
other_defaults (d ∷ ds) = ds

abbrev pub unread : List Shape → Slots
unread [] = []
unread (s ∷ ss) = None ∷ unread ss

-- this name, where a field is not read; else that of a later one
abbrev pub unless_read : Text → Answer Datum → Option Text → Option Text
unless_read n (Ok d) later = later
unless_read n (Err r) later = Some n

-- where nothing was read of a field, its default is read; without one an option is none, and any
-- other field is missed
abbrev pub complete : List Shape → Defaults → Slots → Answer (List Datum)
complete [] gs os = value []
complete (s ∷ ss) gs os = value_or (first_slot os) (missing s (first_default gs))
    >>= λ d. complete ss (other_defaults gs) (other_slots os) >>= λ ds. value (d ∷ ds)

-- the name of the first field that is missed, where the names are these
abbrev pub missed_name : Names → List Shape → Defaults → Slots → Option Text
missed_name ns [] gs os = None
missed_name ns (s ∷ ss) gs os = unless_read (first_name ns)
    (value_or (first_slot os) (missing s (first_default gs)))
    (missed_name (other_names ns) ss (other_defaults gs) (other_slots os))

-- ---- under names, and as elements

abbrev pub field_shapes : Names → List Shape → Defaults → FieldShapes
field_shapes ns [] gs = no_field_shapes
field_shapes ns (s ∷ ss) gs = field_shape (first_name ns) s (first_default gs)
    (field_shapes (other_names ns) ss (other_defaults gs))

-- each field that is not left out
abbrev pub named_fields : Names → Defaults → List Datum → Fields
named_fields ns gs [] = no_fields
named_fields ns gs (d ∷ ds) = put_field (first_name ns) (first_default gs) d
    (named_fields (other_names ns) (other_defaults gs) ds)

-- as many data as shapes
abbrev pub AsMany : List Shape → List Datum → Type 0
AsMany [] [] = ⊤
AsMany (s ∷ ss) (d ∷ ds) = AsMany ss ds
AsMany _ _ = ⊥

abbrev pub shapes_of : List Shape → Shapes
shapes_of [] = no_shapes
shapes_of (s ∷ ss) = shape.shape s (shapes_of ss)
