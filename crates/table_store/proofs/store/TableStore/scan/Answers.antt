use Rattle.std.proofs.Common.{Err, Ok, inl, inr, refl, rules, to_z-of_z, w64, SFits}
use Rattle.table_store.specs.Calls.{Scans}
use Rattle.table_store.specs.declared.error.StoreError.{StoreError}
use Rattle.table_store.proofs.Called.{is_list_err}
use Rattle.table_store.proofs.store.TableStore.scan.Goals as goal

pub returns-in_err-start-clause-ran : goal.returns-in_err-start-clause-ran
unfolding Scans
returns-in_err-start-clause-ran g c clean =
    inr (is_list_err c.from_residual.result StoreError.OutOfMemory c.from_residual.ensures.1, refl)

pub returns-in_err-items-clause-ran : goal.returns-in_err-items-clause-ran
unfolding Scans
returns-in_err-items-clause-ran g c clean =
    let fits : SFits w64 c.args.self.now.table.id = search rules in
    inl (
      c.in_ok-start.start,
      c.in_ok-start.ensures,
      (
        c.page.new.conn,
        Err c.in_err-items.field-0.0,
        rw (to_z-of_z fits) at (c.in_err-items.ensures.ran clean),
        (is_list_err c.from_residual-in_err-items.result _ c.from_residual-in_err-items.ensures.1, refl),
      ),
    )

pub returns-clause-ran : goal.returns-clause-ran
unfolding Scans
returns-clause-ran g c clean =
    let fits : SFits w64 c.args.self.now.table.id = search rules in
    inl (
      c.in_ok-start.start,
      c.in_ok-start.ensures,
      (
        c.page.new.conn,
        Ok c.in_ok-items.items.items,
        rw (to_z-of_z fits) at (c.in_ok-items.ensures.ran clean),
        (c.in_order.ensures.exact, refl),
      ),
    )
