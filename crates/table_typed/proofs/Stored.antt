-- What is read of the item of a value.
use Rattle.std.proofs.Common.{◌≡◌, Result, Ok, Err, sym, subst}
use Rattle.dynamo_value.specs.Av as av
use Rattle.dynamo_value.specs.Fault.{Fault}
use Rattle.dynamo_value.specs.Item.{item_view}
use Rattle.dynamo_value.specs.declared.item.Item.{Item}
use Rattle.dynamo_ser.specs.Datum.{Datum}
use Rattle.dynamo_de.specs.Source.{Source, attribute}
use Rattle.dynamo_shape.specs.Clear.{Clear}
use Rattle.dynamo_shape.specs.Conforms.{conforms}
use Rattle.dynamo_shape.specs.Laws.{ReadsByShape}
use Rattle.dynamo_record.specs.About.{About}
use Rattle.serde_dynamo.proofs.ItemBack as back
use Rattle.table_typed.specs.Written.{IsItemOf}

module _ {T : Type 0} (about : About T) (tells : T → Datum) (told : about.tells ≡ tells)
    (reads : Source → Result T Fault → Type 0) (by_shape : ReadsByShape about.shape about.tells reads) where
  shaped : (v : T) → conforms about.shape (tells v) → conforms about.shape (about.tells v)
  shaped v c = subst (λ t. conforms about.shape (t v)) (sym told) c

  pub got : (v w : T) (item : Item) → Clear about.shape → IsItemOf about.shape tells v item
      → conforms about.shape (about.tells w) → reads (attribute (av.M (item_view item))) (Ok w) → about.same v w
  got v w item clear is k r =
      back.got about tells told reads by_shape v w (item_view item) clear (shaped v is.0) is.1 k r

  pub never_refused : (v : T) (f : Fault) (item : Item) → Clear about.shape → IsItemOf about.shape tells v item
      → reads (attribute (av.M (item_view item))) (Err f) → ⊥
  never_refused v f item clear is r =
      back.never_refused about tells told reads by_shape v f (item_view item) clear (shaped v is.0) is.1 r
