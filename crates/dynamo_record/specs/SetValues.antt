-- Values that can be stored as sets of DynamoDB.
use Rattle.std.specs.Prelude.{◌≡◌}
use Rattle.std.proofs.Common.{refl, sym, ap, subst}
use Rattle.dynamo_ser.specs.Datum as datum
use Rattle.dynamo_ser.specs.Symbols.{SetKind, symbol}
use Rattle.dynamo_ser.specs.Parts.{elements_in}
use Rattle.dynamo_de.specs.Answer.{refused}
use Rattle.dynamo_shape.specs.Absence.{required}
use Rattle.dynamo_shape.specs.Conforms.{conforms, AllElements}
use Rattle.dynamo_shape.specs.Read.{missing}
use Rattle.dynamo_shape.specs.Shape as shape
use Rattle.dynamo_shape.specs.Shape.{Shape}
use Rattle.dynamo_shape.proofs.SetsTold.{in_ordered_list}
use Rattle.dynamo_record.specs.About.{About}

-- As a set of this kind, a value tells what it tells as a list, under the kind's symbol, and
-- conforms where it does as a list. None stands in for a set that is missing.
pub record IsSetOf {M : Type 0} (k : SetKind) (list set : About M) : Type 0 where
  pub tells : (m : M) → set.tells m ≡ datum.newtype_struct (symbol k) (list.tells m)
  pub conforms : (m : M) → conforms list.shape (list.tells m)
      → conforms set.shape (datum.newtype_struct (symbol k) (list.tells m))
  pub missed : missing set.shape required ≡ refused

pub list_is_set : (k : SetKind) (s : Shape) (ds : datum.Elements)
    → conforms (shape.list s) (datum.seq ds)
    → conforms (shape.set k s) (datum.newtype_struct (symbol k) (datum.seq ds))
list_is_set k s ds c = (ds, refl, subst (AllElements (conforms s)) (sym (ap elements_in c.1)) c.2)

pub ordered_is_set : (k : SetKind) (s : Shape) (ds : datum.Elements)
    → conforms (shape.ordered (shape.list s)) (datum.seq ds)
    → conforms (shape.ordered (shape.set k s)) (datum.newtype_struct (symbol k) (datum.seq ds))
ordered_is_set k s ds c = let inside = in_ordered_list s ds c in ((ds, refl, inside.0), inside.1)
