use Rattle.std.proofs.Common.{refl, subst}
use Rattle.table_store.specs.Calls.{GetsAt}
use Rattle.table_typed_store.specs.Calls.{GotAgain}
use Rattle.table_typed_store.proofs.store.TypedStore.get_located.Goals as goal

pub returns-in-Ok-clause-ran : goal.returns-in-Ok-clause-ran
returns-in-Ok-clause-ran g c clean = (c.get.new.self.store.conn, c.in-Ok.ensures.ran clean, refl)

pub returns-in-Err-clause-ran : goal.returns-in-Err-clause-ran
returns-in-Err-clause-ran g c clean = (
  c.get.new.self.store.conn,
  c.in-Err.ensures.ran (c.place_at-place.ensures.clean clean),
  subst (λ t. GotAgain (GetsAt g.S.Store c.args.key.now) c.in-Err.error t c.get.new.self.store.conn c.place_at-place.new.self.store.conn)
      c.in-Err.ensures.table (c.place_at-place.ensures.ran clean),
)
