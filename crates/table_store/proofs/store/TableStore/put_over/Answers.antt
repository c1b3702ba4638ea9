use Rattle.std.proofs.Common.{Err, Ok, inl, inr, refl}
use Rattle.table_store.specs.declared.error.StoreError.{StoreError}
use Rattle.table_store.proofs.Called.{is_err}
use Rattle.table_store.proofs.Kept.{on_ok}
use Rattle.table_store.proofs.store.TableStore.put_over.Goals as goal

pub returns-clause-key : goal.returns-clause-key
returns-clause-key g c = on_ok c.put_at.result (c.in_ok-key.key, c.in_ok-key.ensures.reads)

pub returns-in_err-key-clause-ran : goal.returns-in_err-key-clause-ran
returns-in_err-key-clause-ran g c clean =
    (Err c.in_err-key.field-0.0, c.in_err-key.ensures.reads, (is_err c.from_residual.result _ c.from_residual.ensures.1, refl))

pub returns-in_err-bytes-clause-ran : goal.returns-in_err-bytes-clause-ran
returns-in_err-bytes-clause-ran g c clean = (
  Ok c.in_ok-key.key,
  c.in_ok-key.ensures.reads,
  inr (is_err c.from_residual-in_err-bytes.result StoreError.OutOfMemory c.from_residual-in_err-bytes.ensures.1, refl),
)

pub returns-clause-ran : goal.returns-clause-ran
returns-clause-ran g c clean =
    (Ok c.in_ok-key.key, c.in_ok-key.ensures.reads, inl (c.in_ok-bytes.bytes, c.in_ok-bytes.ensures, c.put_at.ensures.ran clean))
