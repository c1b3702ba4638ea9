use Rattle.std.proofs.Common.{Err, Ok, refl}
use Rattle.table_store.proofs.Called.{is_err}
use Rattle.table_typed_store.proofs.store.TypedStore.is_empty.Goals as goal

pub returns-in_err-count-clause-ran : goal.returns-in_err-count-clause-ran
returns-in_err-count-clause-ran g c clean =
    (Err c.in_err-count.field-0.0, c.in_err-count.ensures.ran clean, is_err c.from_residual.result _ c.from_residual.ensures.1)

pub returns-clause-ran : goal.returns-clause-ran
returns-clause-ran g c clean = (Ok c.in_ok-count.field-0, c.in_ok-count.ensures.ran clean, refl)
