use Rattle.std.proofs.Common.{inl, inr, refl}
use Rattle.table_store.specs.Calls.{GetsAt}
use Rattle.table_store.specs.declared.error.StoreError.{StoreError}
use Rattle.table_store.proofs.Called.{is_err}
use Rattle.table_store.proofs.store.TableStore.get.Goals as goal

pub returns-in_err-bytes-clause-ran : goal.returns-in_err-bytes-clause-ran
unfolding GetsAt
returns-in_err-bytes-clause-ran g c clean = inr (is_err c.from_residual.result StoreError.OutOfMemory c.from_residual.ensures.1, refl)

pub returns-clause-ran : goal.returns-clause-ran
unfolding GetsAt
returns-clause-ran g c clean = inl (c.in_ok-bytes.bytes, c.in_ok-bytes.ensures, c.get_own.ensures.ran clean)
