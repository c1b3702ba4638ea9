-- The part of a value at a place.
use Rattle.std.specs.Prelude.{◌≡◌, ◌⊎◌, ℕ, List, [], ◌∷◌, Option, Some, None, MatchOption}
use Rattle.std.specs.Prelude.{slice_get, string_bytes}
use Rattle.std.specs.HashMap.{get_by_text}
use Rattle.std.specs.declared.alloc.Global.{Global}
use Rattle.std.specs.declared.string.String.{String}
use Rattle.std.specs.declared.vec.Vec.{Vec}
use Rattle.dynamo_value.specs.Table.{Table}
use Rattle.dynamo_value.specs.declared.attribute_value.AttributeValue as of
use Rattle.dynamo_value.specs.declared.attribute_value.AttributeValue.{AttributeValue}
use Rattle.dynamo_place.specs.declared.place.Place.{Place}
use Rattle.dynamo_place.specs.declared.place.Step.{Step}

-- the whole value has no steps
abbrev pub steps_in : Option (Vec Step Global) → List Step
steps_in None = []
steps_in (Some steps) = steps.items

abbrev pub steps_of : Place → List Step
steps_of place = steps_in place.steps

-- the same part, seen from a value in which this step leads to the inner value; or the whole
abbrev pub IsUnder : Step → Place → Place → Type 0
IsUnder step inner outer = (steps_of outer ≡ step ∷ steps_of inner) ⊎ (steps_of outer ≡ [])

abbrev pub IsUnderName : List ℕ → Place → Place → Type 0
IsUnderName name inner outer =
    ((text : String Global) × (string_bytes text ≡ name) × (steps_of outer ≡ Step.Attribute text ∷ steps_of inner))
    ⊎ (steps_of outer ≡ [])

-- one step: into the attribute of this name of an `M`, or into the element with this index of an
-- `L`; no other value has such a part
abbrev pub IsPart : Step → AttributeValue → Option AttributeValue → Type 0
IsPart (Step.Attribute name) value part =
    ((map : Table) × (value ≡ of.M map) × (part ≡ get_by_text map (string_bytes name)))
    ⊎ (((map : Table) → value ≡ of.M map → ⊥) × (part ≡ None))
IsPart (Step.Element index) value part =
    ((values : Vec AttributeValue Global) × (value ≡ of.L values) × (part ≡ slice_get values.items index))
    ⊎ (((values : Vec AttributeValue Global) → value ≡ of.L values → ⊥) × (part ≡ None))

-- the whole value at no steps, else what is at the other steps of the part at the first
abbrev pub IsAt : List Step → AttributeValue → Option AttributeValue → Type 0
IsAt [] value found = found ≡ Some value
IsAt (step ∷ steps) value found =
    (part : Option AttributeValue) × IsPart step value part × MatchOption part (found ≡ None) (λ inner. IsAt steps inner found)
