use Rattle.std.proofs.Common.{Err, Ok, refl}
use Rattle.table_store.specs.Runs.{RunsText}
use Rattle.table_store.proofs.Called.{is_err}
use Rattle.table_store.proofs.rows.run.Goals as goal

pub returns-in_err-execute_batch-clause-ran : goal.returns-in_err-execute_batch-clause-ran
unfolding RunsText
returns-in_err-execute_batch-clause-ran g c clean =
    (Err c.in_err-execute_batch.field-0.0, c.in_err-execute_batch.ensures.ran clean, is_err c.from_residual.result _ c.from_residual.ensures.1)

pub returns-clause-ran : goal.returns-clause-ran
unfolding RunsText
returns-clause-ran g c clean = (Ok tt, c.in_ok-execute_batch.ensures.ran clean, refl)
