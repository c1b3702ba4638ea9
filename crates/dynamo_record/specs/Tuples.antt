-- Tuples and tuple structs, by the list of their fields in order.
use Rattle.std.specs.Prelude.{[], Result}
use Rattle.std.proofs.Common.{refl, sym, ap, subst}
use Rattle.dynamo_ser.specs.Datum as datum
use Rattle.dynamo_ser.specs.Datum.{Datum, Elements, elements_of}
use Rattle.dynamo_ser.specs.Parts.{elements_in}
use Rattle.dynamo_value.specs.Fault.{Fault}
use Rattle.dynamo_value.specs.Steps.{◌>>=◌}
use Rattle.dynamo_de.specs.Answer.{After}
use Rattle.dynamo_de.specs.Reading.{read_elements}
use Rattle.dynamo_de.specs.Source.{Source, Text}
use Rattle.dynamo_shape.specs.Absence.{required}
use Rattle.dynamo_shape.specs.Conforms.{conforms, conform_each}
use Rattle.dynamo_shape.specs.Laws.{AnswersByShape}
use Rattle.dynamo_shape.specs.Read.{read_each, into}
use Rattle.dynamo_shape.specs.Same.{Same, SameElements}
use Rattle.dynamo_shape.specs.Shape as shape
use Rattle.dynamo_shape.specs.Shape.{Shape}
use Rattle.dynamo_shape.proofs.Answered.{made}
use Rattle.dynamo_record.specs.About.{About}
use Rattle.dynamo_record.specs.Fields.{ConformEach, shapes_of}
use Rattle.dynamo_record.specs.Flat.{about_as}
use Rattle.dynamo_record.specs.InOrder.{each_element, elements_same, same_each, ReadsInOrder}
use Rattle.dynamo_record.specs.InOrder.{elements_in_order}
use Rattle.dynamo_record.specs.Listed.{AboutList, about_field, about_both}

-- ---- data that are made of elements

module _ (of_shapes : shape.Shapes → shape.Shape) (of_elements : Elements → Datum) where
  -- it conforms where its elements do, and two are the same where their elements are
  abbrev pub MadeOfElements : Type 0
  MadeOfElements =
      ((ss : shape.Shapes) (ds : Elements) → conforms (of_shapes ss) (of_elements ds) → conform_each ss ds)
      × ((ds es : Elements) → Same (of_elements ds) (of_elements es) → SameElements ds es)
      × ((ds es : Elements) → SameElements ds es → Same (of_elements ds) (of_elements es))

  module _ {L : Type 0} (is_made : MadeOfElements) (a : AboutList L) where
    abbrev pub elements_tell : L → Datum
    elements_tell l = of_elements (elements_of (a.told l []))

    abbrev pub elements_shape : shape.Shape
    elements_shape = of_shapes (shapes_of (a.shapes []))

    each : (l : L) → conforms elements_shape (elements_tell l)
        → ConformEach (a.shapes []) (a.told l [])
    each l c = each_element (a.shapes []) (a.told l [])
        (is_made.0 (shapes_of (a.shapes [])) (elements_of (a.told l [])) c)

    pub elements_by_value : (l m : L) → conforms elements_shape (elements_tell l)
        → conforms elements_shape (elements_tell m)
        → Same (elements_tell l) (elements_tell m)
        → a.same l m
    elements_by_value l m c d h =
        let alike = same_each (a.told l []) (a.told m []) (is_made.1 (elements_of (a.told l [])) (elements_of (a.told m [])) h) in
        (a.told_by_value l m [] [] [] (each l c) (each m d) alike).0

    pub elements_alike : (l m : L) → conforms elements_shape (elements_tell l)
        → conforms elements_shape (elements_tell m)
        → a.same l m
        → Same (elements_tell l) (elements_tell m)
    elements_alike l m c d h =
        is_made.2 (elements_of (a.told l [])) (elements_of (a.told m []))
        (elements_same (a.told l []) (a.told m []) (a.told_alike l m [] [] [] (each l c) (each m d) h (λ _ _. tt)))

    abbrev pub about_elements : About L
    about_elements = record {
      shape = elements_shape;
      tells = elements_tell;
      same = a.same;
      told_by_value = elements_by_value;
      told_alike = elements_alike;
    }

pub tuple_of_elements : MadeOfElements shape.tuple datum.tuple
tuple_of_elements = (
  λ ss ds c. subst (conform_each ss) (sym (ap elements_in c.1)) c.2,
  λ ds es h. subst (SameElements ds) (sym (ap elements_in h.1)) h.2,
  λ ds es h. (es, refl, h),
)

pub struct_of_elements : (name : Text)
    → MadeOfElements (shape.tuple_struct name) (datum.tuple_struct name)
struct_of_elements name = (
  λ ss ds c. subst (conform_each ss) (sym (ap elements_in c.1)) c.2,
  λ ds es h. subst (SameElements ds) (sym (ap elements_in h.1)) h.2,
  λ ds es h. (es, refl, h),
)

abbrev pub about_tuple : {L : Type 0} → AboutList L → About L
about_tuple = about_elements shape.tuple datum.tuple tuple_of_elements

-- the tuple struct of this name
abbrev pub named_tuple : {L : Type 0} → Text → AboutList L → About L
named_tuple name = about_elements (shape.tuple_struct name) (datum.tuple_struct name)
    (struct_of_elements name)

-- it is read as its elements are, in order
pub read_in_order : {L : Type 0} (of_shapes : shape.Shapes → Shape) (of_elements : Elements → Datum)
    → MadeOfElements of_shapes of_elements
    → (a : AboutList L) (s : Source) (r : Result L Fault)
    → After (read_elements s) (ReadsInOrder a) r
    → AnswersByShape (conforms (of_shapes (shapes_of (a.shapes [])))) Same
    (λ l. of_elements (elements_of (a.told l [])))
    (into of_elements (read_elements s >>= read_each (shapes_of (a.shapes [])))) r
read_in_order {L} of_shapes of_elements is_made a s r h =
    let ss = shapes_of (a.shapes []) in
    made (conform_each ss) SameElements (conforms (of_shapes ss)) Same (λ l. elements_of (a.told l [])) of_elements (is_made.0 ss) is_made.2
    (read_elements s >>= read_each ss) r (elements_in_order a s r h)

-- ---- the parts of a tuple, as a list of fields

abbrev pub one_part : {A : Type 0} → About A → AboutList A
one_part a = about_field (λ x. x) a required

-- a part in front of others
abbrev pub more_parts : {A L T : Type 0} → (T → A × L) → About A → AboutList L → AboutList T
more_parts split a others = about_as split (about_both (one_part a) others)

abbrev pub two_parts : {A B : Type 0} → About A → About B → AboutList (A × B)
two_parts a b = more_parts (λ t. t) a (one_part b)

abbrev pub three_parts : {A B C : Type 0} → About A → About B → About C → AboutList (A × B × C)
three_parts a b c = more_parts (λ t. (t.0, (t.1, t.2))) a (two_parts b c)

abbrev pub four_parts : {A B C D : Type 0} → About A → About B → About C → About D
    → AboutList (A × B × C × D)
four_parts a b c d = more_parts (λ t. (t.0, (t.1, t.2, t.3))) a (three_parts b c d)
