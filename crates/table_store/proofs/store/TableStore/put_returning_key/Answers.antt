use Rattle.std.proofs.Common.{Err, refl}
use Rattle.table_store.proofs.Called.{is_err}
use Rattle.table_store.proofs.store.TableStore.put_returning_key.Goals as goal

pub returns-in_err-key-clause-ran : goal.returns-in_err-key-clause-ran
returns-in_err-key-clause-ran g c clean =
    (Err c.in_err-key.field-0.0, c.in_err-key.ensures.ran clean, is_err c.from_residual.result _ c.from_residual.ensures.1)

pub returns-clause-ran : goal.returns-clause-ran
returns-clause-ran g c clean = (c.put_if_returning_key.result, c.put_if_returning_key.ensures.ran clean, rw c.in_ok-key.was refl)
