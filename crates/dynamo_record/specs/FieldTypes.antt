-- How fields are stored otherwise than as their own values: lists as sets, and a missing field as
-- its default.
use Rattle.std.specs.Prelude.{◌≡◌, Result, Ok, Err}
use Rattle.std.proofs.Common.{refl, ap, subst}
use Rattle.std.specs.declared.alloc.Global.{Global}
use Rattle.std.specs.declared.vec.Vec.{Vec}
use Rattle.dynamo_value.specs.Fault.{Fault, out_of_memory}
use Rattle.dynamo_ser.specs.Datum as datum
use Rattle.dynamo_ser.specs.Datum.{Datum}
use Rattle.dynamo_ser.specs.Symbols.{SetKind, symbol}
use Rattle.dynamo_ser.specs.Parts.{content_in}
use Rattle.dynamo_de.specs.Answer.{After}
use Rattle.dynamo_value.specs.Steps.{◌>>=◌}
use Rattle.dynamo_de.specs.Reading.{read_elements}
use Rattle.dynamo_de.specs.Reads.{ReadsList}
use Rattle.dynamo_de.specs.Source.{Source}
use Rattle.dynamo_shape.specs.ByValue.{SameEach}
use Rattle.dynamo_shape.specs.Conforms.{conforms}
use Rattle.dynamo_shape.specs.Laws.{AnswersByShape, ReadsByShape}
use Rattle.dynamo_shape.specs.Read.{read, read_list}
use Rattle.dynamo_shape.specs.Same.{Same}
use Rattle.dynamo_shape.specs.Shape as shape
use Rattle.dynamo_shape.specs.Shape.{Shape}
use Rattle.dynamo_shape.proofs.Answered.{made}
use Rattle.dynamo_shape.proofs.ByHand.{into_into}
use Rattle.dynamo_shape.proofs.FieldsTold.{set_told, set_alike}
use Rattle.dynamo_shape.proofs.Lists.{list_permitted}
use Rattle.dynamo_record.specs.About.{About, list_tells}

-- ---- sets

-- the list, as the newtype struct that asks for a set
abbrev pub set_tells : {T : Type 0} → SetKind → (T → Datum) → Vec T Global → Datum
set_tells k tells v = datum.newtype_struct (symbol k) (list_tells tells v)

-- a list that is stored as a set
abbrev pub about_set : {T : Type 0} → SetKind → About T → About (Vec T Global)
about_set k a = record {
  shape = shape.set k a.shape;
  tells = set_tells k a.tells;
  same = λ v w. SameEach a.same v.items w.items;
  told_by_value = set_told k a.shape a.tells a.same a.told_by_value;
  told_alike = set_alike k a.shape a.tells a.same a.told_alike;
}

-- what the empty list tells as a set
abbrev pub empty_set : SetKind → Datum
empty_set k = datum.newtype_struct (symbol k) (datum.seq datum.no_elements)

-- a set is read as a list is
pub set_permitted : {T : Type 0} (k : SetKind) (s : Shape) (tells : T → Datum)
    (reads : Source → Result T Fault → Type 0)
    → ReadsByShape s tells reads
    → ReadsByShape {T = Vec T Global} (shape.set k s) (set_tells k tells)
    (λ source. After (read_elements source) (ReadsList reads))
set_permitted {T} k s tells reads h source r a =
    subst (λ x. AnswersByShape (conforms (shape.set k s)) Same (set_tells {T = T} k tells) x r) (into_into datum.seq (datum.newtype_struct (symbol k)) (read_elements source >>= read_list (read s)))
    (made (conforms (shape.list s)) Same (conforms (shape.set k s)) Same (list_tells tells) (datum.newtype_struct (symbol k))
    (λ d c. (c.0, ap content_in c.1, c.2)) (λ d e same. (e, refl, same)) (read (shape.list s) source) r (list_permitted s tells reads h source r a))

-- ---- defaults

-- the value tells this datum, or memory ran out
abbrev pub IsDefault : {T E : Type 0} → (E → Fault) → (T → Datum) → Datum → Result T E → Type 0
IsDefault fault tells d (Ok v) = tells v ≡ d
IsDefault fault tells d (Err e) = fault e ≡ out_of_memory
