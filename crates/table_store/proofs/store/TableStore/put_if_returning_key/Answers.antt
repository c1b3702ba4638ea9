use Rattle.std.proofs.Common.{◌≡◌, ◌∙◌, Err, Ok, ap, inl, inr, is_some, false, refl, sym, true}
use Rattle.table_keys.specs.Conditions.{holds}
use Rattle.table_store.specs.Calls.{PutsIf}
use Rattle.table_store.specs.declared.error.StoreError.{StoreError}
use Rattle.table_store.proofs.Called.{is_err, unless, when}
use Rattle.table_store.proofs.store.TableStore.put_if_returning_key.Goals as goal

pub returns-in_err-key-clause-ran : goal.returns-in_err-key-clause-ran
unfolding PutsIf
returns-in_err-key-clause-ran g c clean =
    (Err c.in_err-key.field-0.0, c.in_err-key.ensures.reads, (is_err c.from_residual.result _ c.from_residual.ensures.1, refl))

pub returns-in_err-bytes-clause-ran : goal.returns-in_err-bytes-clause-ran
unfolding PutsIf
returns-in_err-bytes-clause-ran g c clean = (
  Ok c.in_ok-key.key,
  c.in_ok-key.ensures.reads,
  inr (is_err c.from_residual-in_err-bytes.result StoreError.OutOfMemory c.from_residual-in_err-bytes.ensures.1, refl),
)

pub returns-in_err-before-clause-ran : goal.returns-in_err-before-clause-ran
unfolding PutsIf
returns-in_err-before-clause-ran g c clean = (
  Ok c.in_ok-key.key,
  c.in_ok-key.ensures.reads,
  inl (
    c.in_ok-bytes.bytes,
    c.in_ok-bytes.ensures,
    (
      c.get_own.new.conn,
      Err c.in_err-before.field-0.0,
      c.in_err-before.ensures.ran clean,
      (is_err c.from_residual-in_err-before.result _ c.from_residual-in_err-before.ensures.1, refl),
    ),
  ),
)

pub returns-then-not-holds-clause-ran : goal.returns-then-not-holds-clause-ran
unfolding PutsIf
returns-then-not-holds-clause-ran g c clean =
    let no : holds c.args.condition (is_some c.in_ok-before.before) ≡ false =
    ap (holds c.args.condition) (sym c.is_some.ensures) ∙ sym c.holds.ensures ∙ c.if-not-holds.true in (
      Ok c.in_ok-key.key,
      c.in_ok-key.ensures.reads,
      inl (
        c.in_ok-bytes.bytes,
        c.in_ok-bytes.ensures,
        (c.get_own.new.conn, Ok c.in_ok-before.before, c.in_ok-before.ensures.ran clean, unless _ _ no (refl, refl)),
      ),
    )

pub returns-in_err-put_at-clause-ran : goal.returns-in_err-put_at-clause-ran
unfolding PutsIf
returns-in_err-put_at-clause-ran g c clean =
    let yes : holds c.args.condition (is_some c.in_ok-before.before) ≡ true =
    ap (holds c.args.condition) (sym c.is_some.ensures) ∙ sym c.holds.ensures ∙ c.if-not-holds.false in (
      Ok c.in_ok-key.key,
      c.in_ok-key.ensures.reads,
      inl (
        c.in_ok-bytes.bytes,
        c.in_ok-bytes.ensures,
        (
          c.get_own.new.conn,
          Ok c.in_ok-before.before,
          c.in_ok-before.ensures.ran (c.put_at.ensures.clean clean),
          when _ _ yes (
            c.put_at.new.self.conn,
            Err c.in_err-put_at.field-0.0,
            c.in_err-put_at.ensures.ran clean,
            (is_err c.from_residual-in_err-put_at.result _ c.from_residual-in_err-put_at.ensures.1, refl),
          ),
        ),
      ),
    )

pub returns-clause-ran : goal.returns-clause-ran
unfolding PutsIf
returns-clause-ran g c clean =
    let yes : holds c.args.condition (is_some c.in_ok-before.before) ≡ true =
    ap (holds c.args.condition) (sym c.is_some.ensures) ∙ sym c.holds.ensures ∙ c.if-not-holds.false in (
      Ok c.in_ok-key.key,
      c.in_ok-key.ensures.reads,
      inl (
        c.in_ok-bytes.bytes,
        c.in_ok-bytes.ensures,
        (
          c.get_own.new.conn,
          Ok c.in_ok-before.before,
          c.in_ok-before.ensures.ran (c.put_at.ensures.clean clean),
          when _ _ yes (c.put_at.new.self.conn, Ok tt, c.in_ok-put_at.ensures.ran clean, (refl, refl)),
        ),
      ),
    )
