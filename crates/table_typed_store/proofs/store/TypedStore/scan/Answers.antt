use Rattle.std.proofs.Common.{Err, Ok}
use Rattle.table_store.proofs.Called.{is_list_err}
use Rattle.table_typed_store.proofs.store.TypedStore.scan.Goals as goal

pub returns-in_err-found-clause-ran : goal.returns-in_err-found-clause-ran
returns-in_err-found-clause-ran g c clean =
    (Err c.in_err-found.field-0.0, c.in_err-found.ensures.ran clean, is_list_err c.from_residual.result _ c.from_residual.ensures.1)

pub returns-clause-ran : goal.returns-clause-ran
returns-clause-ran g c clean = (Ok c.in_ok-found.found.items, c.in_ok-found.ensures.ran clean, c.values_from.ensures.exact)
