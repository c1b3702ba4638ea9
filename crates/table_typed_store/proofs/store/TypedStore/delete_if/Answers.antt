use Rattle.std.proofs.Common.{Err, Ok, ap}
use Rattle.table_store.proofs.Called.{is_err}
use Rattle.table_typed_store.proofs.store.TypedStore.delete_if.Goals as goal

pub returns-in_err-delete_if-clause-ran : goal.returns-in_err-delete_if-clause-ran
returns-in_err-delete_if-clause-ran g c clean =
    (Err c.in_err-delete_if.field-0.0, c.in_err-delete_if.ensures.ran clean, is_err c.from_residual.result _ c.from_residual.ensures.1)

pub returns-clause-ran : goal.returns-clause-ran
returns-clause-ran g c clean = (Ok c.in_ok-delete_if.field-0, c.in_ok-delete_if.ensures.ran clean, ap Ok c.is_some.ensures)
