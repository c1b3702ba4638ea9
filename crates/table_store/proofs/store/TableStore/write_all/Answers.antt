use Rattle.std.proofs.Common.{Err, Ok, refl}
use Rattle.table_store.specs.Calls.{WritesAll}
use Rattle.table_store.proofs.Called.{is_err}
use Rattle.table_store.proofs.store.TableStore.write_all.Goals as goal

pub returns-in_err-run-clause-ran : goal.returns-in_err-run-clause-ran
unfolding WritesAll
returns-in_err-run-clause-ran g c clean = (
  c.run.new.conn,
  Err c.in_err-run.field-0.0,
  c.in_err-run.ensures.ran clean,
  (is_err c.from_residual.result _ c.from_residual.ensures.1, refl),
)

pub returns-in-Ok-clause-ran : goal.returns-in-Ok-clause-ran
unfolding WritesAll
returns-in-Ok-clause-ran g c clean =
    let before = c.run-in-Ok.ensures.clean clean in (
      c.run.new.conn,
      Ok tt,
      c.in_ok-run.ensures.ran (c.put_each.ensures.clean before),
      (c.put_each.new.self.conn, Ok tt, c.in-Ok.ensures.ran before, c.run-in-Ok.ensures.ran clean),
    )

pub returns-in-Err-clause-ran : goal.returns-in-Err-clause-ran
unfolding WritesAll
returns-in-Err-clause-ran g c clean =
    let before = c.run-in-Err.ensures.clean clean in (
      c.run.new.conn,
      Ok tt,
      c.in_ok-run.ensures.ran (c.put_each.ensures.clean before),
      (
        c.put_each.new.self.conn,
        Err c.in-Err.error,
        c.in-Err.ensures.ran before,
        (refl, c.run-in-Err.result, c.run-in-Err.ensures.ran clean),
      ),
    )
