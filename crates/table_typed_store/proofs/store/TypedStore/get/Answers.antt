use Rattle.std.proofs.Common.{Err, None, Ok, Some, refl}
use Rattle.table_store.proofs.Called.{is_err}
use Rattle.table_typed_store.proofs.store.TypedStore.get.Goals as goal

pub returns-in_ok-from_item-in-Some-clause-read : goal.returns-in_ok-from_item-in-Some-clause-read
returns-in_ok-from_item-in-Some-clause-read g c =
    (c.in-Some.item, rw c.in-Some.is at c.in_ok-item.ensures.key, c.in_ok-from_item-in-Some.ensures.read)

pub returns-in_err-item-clause-ran : goal.returns-in_err-item-clause-ran
returns-in_err-item-clause-ran g c clean =
    (Err c.in_err-item.field-0.0, c.in_err-item.ensures.ran clean, is_err c.from_residual.result _ c.from_residual.ensures.1)

pub returns-in_err-from_item-in-Some-clause-ran : goal.returns-in_err-from_item-in-Some-clause-ran
returns-in_err-from_item-in-Some-clause-ran g c clean = (
  Ok (Some c.in-Some.item),
  rw c.in-Some.is at (c.in_ok-item.ensures.ran clean),
  (
    Err c.in_err-from_item-in-Some.field-0.0,
    c.in_err-from_item-in-Some.ensures.read,
    is_err c.from_residual-in_err-from_item-in-Some.result _ c.from_residual-in_err-from_item-in-Some.ensures.1,
  ),
)

pub returns-in_ok-from_item-in-Some-clause-ran : goal.returns-in_ok-from_item-in-Some-clause-ran
returns-in_ok-from_item-in-Some-clause-ran g c clean = (
  Ok (Some c.in-Some.item),
  rw c.in-Some.is at (c.in_ok-item.ensures.ran clean),
  (Ok (Some c.in_ok-from_item-in-Some.field-0), c.in_ok-from_item-in-Some.ensures.read, refl),
)

pub returns-in-None-clause-ran : goal.returns-in-None-clause-ran
returns-in-None-clause-ran g c clean = (Ok None, rw c.in-None.is at (c.in_ok-item.ensures.ran clean), (Ok None, refl, refl))
