-- Structs and newtypes that are read by hand: what they read is permitted by reading at their shapes.
use Rattle.std.proofs.Common.{◌≡◌, List, Result, refl, sym, ap, subst}
use Rattle.dynamo_shape.proofs.Common.{Fault, Datum, Answer, After, Gives, read_newtype, read_parts}
use Rattle.dynamo_shape.proofs.Common.{Source, Text, Entry, conforms, ReadsByShape, read, into}
use Rattle.dynamo_shape.proofs.Common.{read_field, fields_by_name, fields_in_order, fields_of}
use Rattle.dynamo_shape.proofs.Common.{Shape, FieldShapes, struct, Same}
use Rattle.dynamo_ser.specs.Datum as datum
use Rattle.dynamo_shape.specs.Shape as shape
use Rattle.dynamo_ser.specs.Parts.{content_in}
use Rattle.dynamo_de.specs.Visitors.{Parts, by_name, in_order}
use Rattle.dynamo_shape.proofs.Answered.{made, after}
use Rattle.dynamo_shape.proofs.ByHand.{same_next, by_steps}
use Rattle.dynamo_shape.proofs.InOrder.{ListsFields}

-- ---- a struct, which is read by the names of its fields or in their order

pub struct_permitted : {V : Type 0} (name : Text) (fs : FieldShapes) (tells : V → Datum) (parts : Parts → Answer Datum) → ((es : List Entry) → parts (by_name es) ≡ into (datum.struct name) (fields_by_name fs (read_field fs) es)) → ListsFields fs (λ ss. parts (in_order ss)) (datum.struct name) → ReadsByShape (struct name fs) tells (λ source. After (read_parts source) (λ p. Gives tells (parts p)))
unfolding ListsFields
struct_permitted name fs tells parts named listed source r a =
    by_steps (struct name fs) (conforms (struct name fs)) tells source (read_parts source) parts (same_next (datum.struct name) (read_parts source) parts (fields_of fs (fields_in_order fs) (read_field fs)) either) r a
  where
    either : (p : Parts) → parts p ≡ into (datum.struct name) (fields_of fs (fields_in_order fs) (read_field fs) p)
    either (by_name es) = named es
    either (in_order ss) = listed ss

-- ---- a newtype

-- its content is read, and the newtype made of it
pub newtype_permitted : {V : Type 0} (name : Text) (s : Shape) (tells : V → Datum) (reads : Source → Result V Fault → Type 0) → ReadsByShape s tells reads → ReadsByShape (shape.newtype name s) (λ v. datum.newtype_struct name (tells v)) (λ source. After (read_newtype source) reads)
newtype_permitted name s tells reads h source r a =
    after (conforms (shape.newtype name s)) Same (λ v. datum.newtype_struct name (tells v)) reads (λ c. into (datum.newtype_struct name) (read s c))
    (λ c r b. made (conforms s) Same (conforms (shape.newtype name s)) Same tells (datum.newtype_struct name) (λ d k. subst (conforms s) (sym (ap content_in k.1)) k.2) (λ d e same. (e, refl, same)) (read s c) r (h c r b))
    (read_newtype source) r a
