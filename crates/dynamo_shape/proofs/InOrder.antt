-- Fields that are read by hand, one after another, read as their shapes say.
use Rattle.std.proofs.Common.{◌≡◌, List, [], ◌∷◌, refl, sym, ◌∙◌, Ok, Err}
use Rattle.dynamo_shape.proofs.Common.{Datum, Fields, Answer, ◌>>=◌, Source, Text, Absence}
use Rattle.dynamo_shape.proofs.Common.{put_field, into, fields_in_order, Shape, FieldShapes}
use Rattle.dynamo_shape.proofs.Common.{no_field_shapes, field_shape}
use Rattle.dynamo_ser.specs.Datum as datum
use Rattle.dynamo_de.specs.Answer as answer
use Rattle.dynamo_de.specs.Fields.{read_first}
use Rattle.dynamo_shape.proofs.ByHand.{IsReadAs, into_into}

made_next : {A B C D E : Type 0} (make : A → B) (r : Answer A) (next : A → Answer E) (rest : Answer C) (join : B → C → D) (f : D → E) → ((x : A) → next x ≡ into (λ y. f (join (make x) y)) rest) → r >>= next ≡ into f (into make r >>= λ d. rest >>= λ y. answer.value (join d y))
made_next make (Ok x) next rest join f h = h x ∙ sym (into_into (join (make x)) f rest)
made_next make (Err e) next rest join f h = refl

-- what is read of these sources, one after another, is what is made of the fields
unfoldable pub ListsFields : {B : Type 0} → FieldShapes → (List Source → Answer B) → (Fields → B) → Type 0
ListsFields fs listed f = (ss : List Source) → listed ss ≡ into f (fields_in_order fs ss)

-- a field, and then the others
pub first_field : {A B : Type 0} (name : Text) (s : Shape) (default : Absence) (fs : FieldShapes) (reads : Source → Answer A) (make : A → Datum) (next : A → List Source → Answer B) (f : Fields → B) → IsReadAs s reads make → ((x : A) → ListsFields fs (next x) (λ gs. f (put_field name default (make x) gs))) → ListsFields (field_shape name s default fs) (λ ss. read_first reads ss next) f
unfolding read_first ListsFields
first_field name s default fs reads make next f same h [] = refl
first_field name s default fs reads make next f same h (x ∷ ss) = rw (same x) (made_next make (reads x) (λ y. next y ss) (fields_in_order fs ss) (put_field name default) f (λ y. h y ss))

pub no_more_fields : {B : Type 0} (f : Fields → B) → ListsFields no_field_shapes (λ ss. answer.value (f datum.no_fields)) f
unfolding ListsFields
no_more_fields f ss = refl
