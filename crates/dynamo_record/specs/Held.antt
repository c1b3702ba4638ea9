-- The entries of a map that are held, each by its key's text and the unread reader of its value.
use Rattle.std.specs.Prelude.{◌≡◌, ◌++◌, ℕ, List, [], ◌∷◌, Option, Some, None, Result, Ok, Err}
use Rattle.std.specs.Prelude.{String, string_bytes, length, ⊤}
use Rattle.std.specs.declared.alloc.Global.{Global}
use Rattle.dynamo_value.specs.Av.{Av}
use Rattle.dynamo_value.specs.Fault.{Fault}
use Rattle.dynamo_ser.specs.Datum.{Fields}
use Rattle.dynamo_de.specs.Source.{Source, Text, Entry, attribute}
use Rattle.dynamo_shape.specs.Conforms.{conform_fields}
use Rattle.dynamo_shape.specs.Laws.{AnswersByShape}
use Rattle.dynamo_shape.specs.Read.{fields_by_name, last_of, read_field}
use Rattle.dynamo_shape.specs.Same.{SameFields}
use Rattle.dynamo_shape.specs.Shape.{FieldShapes}

-- what is held of these entries, in order
abbrev pub Holds : {D : Type 0} → (D → Source) → List (String Global × D) → List Entry → Type 0
Holds source [] [] = ⊤
Holds source (p ∷ ps) (e ∷ es) = (string_bytes p.0 ≡ e.0) × (source p.1 ≡ attribute e.1)
    × Holds source ps es
Holds source _ _ = ⊥

-- the place of the last entry of this name, or none
abbrev pub IsLast : Text → List Entry → Option ℕ → Type 0
IsLast t es None = last_of t es None ≡ None
IsLast t es (Some i) = (front : List Entry) × (a : Av) × (back : List Entry)
    × (es ≡ front ++ ((t, a) ∷ back)) × (i ≡ length front) × (last_of t back None ≡ None)

-- what may be answered on entries: what reading fields by their names gives
abbrev pub FieldAnswers : {L : Type 0} → (L → Fields) → FieldShapes → List Entry → Result L Fault
    → Type 0
FieldAnswers told fs es r = AnswersByShape (conform_fields fs) SameFields told
    (fields_by_name fs (read_field fs) es) r

-- the same of a variant with this number
abbrev pub ReadsFields : {L : Type 0} → (L → ℕ) → (L → Fields) → ℕ → FieldShapes → List Entry
    → Result L Fault → Type 0
ReadsFields place told i fs es (Ok v) = (place v ≡ i) × FieldAnswers told fs es (Ok v)
ReadsFields place told i fs es (Err f) = FieldAnswers told fs es (Err f)
