-- Fields in order, as the elements of a tuple.
use Rattle.std.specs.Prelude.{◌≡◌, List, [], ◌∷◌, Result, Ok, Err, ⊤}
use Rattle.std.proofs.Common.{refl, sym, ap, subst}
use Rattle.dynamo_value.specs.Fault.{Fault}
use Rattle.dynamo_ser.specs.Datum as datum
use Rattle.dynamo_ser.specs.Datum.{Datum, Elements, elements_of}
use Rattle.dynamo_value.specs.Steps.{◌>>=◌}
use Rattle.dynamo_de.specs.Answer as answer
use Rattle.dynamo_de.specs.Answer.{Answer, After}
use Rattle.dynamo_de.specs.Reading.{read_elements}
use Rattle.dynamo_de.specs.Source.{Source}
use Rattle.dynamo_shape.specs.Conforms.{conforms, conform_each}
use Rattle.dynamo_shape.specs.Laws.{AnswersByShape}
use Rattle.dynamo_shape.specs.Permits.{Permits}
use Rattle.dynamo_shape.specs.Read.{read, read_each, into}
use Rattle.dynamo_shape.specs.Same.{Same, SameElements}
use Rattle.dynamo_shape.specs.Shape as shape
use Rattle.dynamo_shape.proofs.Answered.{after, stops}
use Rattle.dynamo_record.specs.Fields.{ConformEach, SameData, shapes_of, read_fields}
use Rattle.dynamo_record.specs.Listed.{AboutList, Shapes, Data}

abbrev first_element : Elements → Datum
first_element (datum.element d ds) = d
first_element datum.no_elements = datum.unit

abbrev other_elements : Elements → Elements
other_elements (datum.element d ds) = ds
other_elements datum.no_elements = datum.no_elements

abbrev IsElement : Elements → Type 0
IsElement (datum.element d ds) = ⊤
IsElement datum.no_elements = ⊥

pub each_element : (ss : Shapes) (ds : Data) → conform_each (shapes_of ss) (elements_of ds)
    → ConformEach ss ds
each_element [] [] c = tt
each_element [] (d ∷ ds) c = absurd (subst IsElement c tt)
each_element (s ∷ ss) [] c = absurd (subst IsElement (sym c.2) tt)
each_element (s ∷ ss) (d ∷ ds) c = (
  subst (conforms s) (sym (ap first_element c.2)) c.3,
  each_element ss ds (subst (conform_each (shapes_of ss)) (sym (ap other_elements c.2)) c.4),
)

pub elements_conform : (ss : Shapes) (ds : Data) → ConformEach ss ds
    → conform_each (shapes_of ss) (elements_of ds)
elements_conform [] [] c = refl
elements_conform [] (d ∷ ds) c = absurd c
elements_conform (s ∷ ss) [] c = absurd c
elements_conform (s ∷ ss) (d ∷ ds) c = (d, elements_of ds, refl, c.0, elements_conform ss ds c.1)

pub elements_same : (ds es : Data) → SameData ds es → SameElements (elements_of ds) (elements_of es)
elements_same [] [] h = refl
elements_same [] (e ∷ es) h = absurd h
elements_same (d ∷ ds) [] h = absurd h
elements_same (d ∷ ds) (e ∷ es) h = (e, elements_of es, refl, h.0, elements_same ds es h.1)

pub same_each : (ds es : Data) → SameElements (elements_of ds) (elements_of es) → SameData ds es
same_each [] [] h = tt
same_each [] (e ∷ es) h = absurd (subst IsElement h tt)
same_each (d ∷ ds) [] h = absurd (subst IsElement (sym h.2) tt)
same_each (d ∷ ds) (e ∷ es) h = (
  subst (Same d) (sym (ap first_element h.2)) h.3,
  same_each ds es
      (subst (SameElements (elements_of ds)) (sym (ap other_elements h.2)) h.4),
)

-- what may be answered on the elements of a tuple: what reading the fields in order gives
abbrev pub ReadsInOrder : {L : Type 0} → AboutList L → List Source → Result L Fault → Type 0
ReadsInOrder a xs r = AnswersByShape (ConformEach (a.shapes [])) SameData (λ v. a.told v [])
    (read_fields (a.shapes []) xs) r

read_tuple : (ss : Shapes) (xs : List Source)
    → read_each (shapes_of ss) xs ≡ into elements_of (read_fields ss xs)
read_tuple [] xs = refl
read_tuple (s ∷ ss) [] = refl
read_tuple (s ∷ ss) (x ∷ xs) = step (read s x) (read_each (shapes_of ss) xs) (read_fields ss xs)
    (read_tuple ss xs)
  where
    others : (d : Datum) (b : Answer Data)
        → (into elements_of b >>= λ es. answer.value (datum.element d es))
        ≡ into elements_of (b >>= λ ds. answer.value (d ∷ ds))
    others d (Ok ds) = refl
    others d (Err f) = refl

    step : (a : Answer Datum) (es : Answer Elements) (ds : Answer Data) → es ≡ into elements_of ds
        → (a >>= λ d. es >>= λ xs. answer.value (datum.element d xs))
        ≡ into elements_of (a >>= λ d. ds >>= λ xs. answer.value (d ∷ xs))
    step (Ok d) es ds e = rw e (others d ds)
    step (Err f) es ds e = refl

module _ {L : Type 0} (a : AboutList L) where
  abbrev Told : L → Elements
  Told v = elements_of (a.told v [])

  abbrev InShapes : shape.Shapes
  InShapes = shapes_of (a.shapes [])

  as_elements : (xs : List Source) (r : Result L Fault) → ReadsInOrder a xs r
      → AnswersByShape (conform_each InShapes) SameElements Told (read_each InShapes xs) r
  as_elements xs (Ok x) h = (
    elements_of h.0,
    rw (read_tuple (a.shapes []) xs) (ap (into elements_of) h.1),
    λ c. elements_same h.0 (a.told x []) (h.2 (each_element (a.shapes []) (a.told x []) c)),
  )
  as_elements xs (Err f) h = subst (λ q. Permits SameElements q (Err f))
      (sym (read_tuple (a.shapes []) xs))
      (stops SameData SameElements (read_fields (a.shapes []) xs)
      (λ ds. answer.value (elements_of ds)) f h)

  pub elements_in_order : (s : Source) (r : Result L Fault)
      → After (read_elements s) (ReadsInOrder a) r
      → AnswersByShape (conform_each InShapes) SameElements Told
      (read_elements s >>= read_each InShapes) r
  elements_in_order s r h = after (conform_each InShapes) SameElements Told (ReadsInOrder a)
      (read_each InShapes) as_elements (read_elements s) r h
