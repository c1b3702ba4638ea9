use Rattle.std.proofs.Common.{refl, subst}
use Rattle.table_store.specs.Calls.{Scans}
use Rattle.table_typed_store.specs.Calls.{GotAgain}
use Rattle.table_typed_store.proofs.store.TypedStore.scan_located.Goals as goal

pub returns-in-Ok-clause-ran : goal.returns-in-Ok-clause-ran
returns-in-Ok-clause-ran g c clean = (c.scan.new.self.store.conn, c.in-Ok.ensures.ran clean, refl)

pub returns-in-Err-clause-ran : goal.returns-in-Err-clause-ran
returns-in-Err-clause-ran g c clean = (
  c.scan.new.self.store.conn,
  c.in-Err.ensures.ran (c.place_in_page-place.ensures.clean clean),
  subst (λ t. GotAgain (Scans g.S.Store c.args.limit c.args.start_after) c.in-Err.error t c.scan.new.self.store.conn c.place_in_page-place.new.self.store.conn)
      c.in-Err.ensures.table (c.place_in_page-place.ensures.ran clean),
)
