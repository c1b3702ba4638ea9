use Rattle.std.proofs.Common.{rules, Err, None, Ok, Some, inr, refl, subst}
use Rattle.table_store.specs.Calls.{PutsChanged, Updates}
use Rattle.table_store.specs.Content.{HasThisKey}
use Rattle.table_store.proofs.Called.{is_err}
use Rattle.table_store.proofs.Kept.{of_err}
use Rattle.table_store.proofs.store.TableStore.update.Goals as goal

pub returns-clause-changes : goal.returns-clause-changes
returns-clause-changes g c = (
  c.in-Some.item,
  c.in_ok-changed.changed,
  search rules,
  subst (λ s. HasThisKey s c.args.key.now c.in_ok-changed.changed)
      c.in_ok-item.ensures.schema c.in_ok-put_changed.ensures.own,
)

pub returns-clause-given : goal.returns-clause-given
returns-clause-given g c = (
  c.in-Some.item,
  c.in_ok-changed.changed,
  (rw c.in-Some.is at c.in_ok-item.ensures.key, search rules),
  subst (λ s. HasThisKey s c.args.key.now c.in_ok-changed.changed)
      c.in_ok-item.ensures.schema c.in_ok-put_changed.ensures.own,
)

pub returns-in_err-item-clause-err : goal.returns-in_err-item-clause-err
returns-in_err-item-clause-err g c =
    of_err c.from_residual.result (λ e given. inr (c.in_err-item.field-0.0, given)) c.from_residual.ensures.1

pub returns-in_err-item-clause-ran : goal.returns-in_err-item-clause-ran
unfolding Updates
returns-in_err-item-clause-ran g c clean =
    (c.get.new.self.conn, Err c.in_err-item.field-0.0, c.in_err-item.ensures.ran clean, (c.from_residual.ensures.1, refl))

pub returns-in_default-clause-ran : goal.returns-in_default-clause-ran
unfolding Updates
returns-in_default-clause-ran g c clean =
    (c.get.new.self.conn, Ok None, rw c.in_default.is at (c.in_ok-item.ensures.ran clean), (c.from.ensures, refl))

pub returns-in_err-changed-clause-ran : goal.returns-in_err-changed-clause-ran
unfolding Updates
returns-in_err-changed-clause-ran g c clean = (
  c.get.new.self.conn,
  Ok (Some c.in-Some.item),
  rw c.in-Some.is at (c.in_ok-item.ensures.ran clean),
  (Err c.in_err-changed.field-0.0, search rules, (is_err c.from_residual-in_err-changed.result _ c.from_residual-in_err-changed.ensures.1, refl)),
)

pub returns-in_err-put_changed-clause-ran : goal.returns-in_err-put_changed-clause-ran
unfolding Updates
returns-in_err-put_changed-clause-ran g c clean = (
  c.get.new.self.conn,
  Ok (Some c.in-Some.item),
  rw c.in-Some.is at (c.in_ok-item.ensures.ran (c.put_changed.ensures.clean clean)),
  (
    Ok c.in_ok-changed.changed,
    search rules,
    (
      Err c.in_err-put_changed.field-0.0,
      subst (λ t. PutsChanged g.S.Store c.args.key.now c.in_ok-changed.changed t c.get.new.self.conn c.put_changed.new.self.conn (Err c.in_err-put_changed.field-0.0))
          c.in_ok-item.ensures.table (c.in_err-put_changed.ensures.ran clean),
      c.from_residual-in_err-put_changed.ensures.1,
    ),
  ),
)

pub returns-clause-ran : goal.returns-clause-ran
unfolding Updates
returns-clause-ran g c clean = (
  c.get.new.self.conn,
  Ok (Some c.in-Some.item),
  rw c.in-Some.is at (c.in_ok-item.ensures.ran (c.put_changed.ensures.clean clean)),
  (
    Ok c.in_ok-changed.changed,
    search rules,
    (
      Ok tt,
      subst (λ t. PutsChanged g.S.Store c.args.key.now c.in_ok-changed.changed t c.get.new.self.conn c.put_changed.new.self.conn (Ok tt))
          c.in_ok-item.ensures.table (c.in_ok-put_changed.ensures.ran clean),
      refl,
    ),
  ),
)
