use Rattle.std.proofs.Common.{◌≡◌, ◌∙◌, Err, Ok, ap, inl, inr, is_some, false, refl, rules, sym, to_z-of_z, true, w64, SFits}
use Rattle.table_keys.specs.Conditions.{holds}
use Rattle.table_store.specs.Calls.{DeletesIf}
use Rattle.table_store.specs.declared.error.StoreError.{StoreError}
use Rattle.table_store.proofs.Called.{is_err, unless, when}
use Rattle.table_store.proofs.store.TableStore.delete_if.Goals as goal

pub returns-in_err-bytes-clause-ran : goal.returns-in_err-bytes-clause-ran
unfolding DeletesIf
returns-in_err-bytes-clause-ran g c clean = inr (is_err c.from_residual.result StoreError.OutOfMemory c.from_residual.ensures.1, refl)

pub returns-in_err-before-clause-ran : goal.returns-in_err-before-clause-ran
unfolding DeletesIf
returns-in_err-before-clause-ran g c clean =
    inl (
      c.in_ok-bytes.bytes,
      c.in_ok-bytes.ensures,
      (
        c.get_own.new.conn,
        Err c.in_err-before.field-0.0,
        c.in_err-before.ensures.ran clean,
        (is_err c.from_residual-in_err-before.result _ c.from_residual-in_err-before.ensures.1, refl),
      ),
    )

pub returns-then-not-holds-clause-ran : goal.returns-then-not-holds-clause-ran
unfolding DeletesIf
returns-then-not-holds-clause-ran g c clean =
    let no : holds c.args.condition (is_some c.in_ok-before.before) ≡ false =
    ap (holds c.args.condition) (sym c.is_some.ensures) ∙ sym c.holds.ensures ∙ c.if-not-holds.true in
    inl (
      c.in_ok-bytes.bytes,
      c.in_ok-bytes.ensures,
      (c.get_own.new.conn, Ok c.in_ok-before.before, c.in_ok-before.ensures.ran clean, unless _ _ no (refl, refl)),
    )

pub returns-in_err-delete-clause-ran : goal.returns-in_err-delete-clause-ran
unfolding DeletesIf
returns-in_err-delete-clause-ran g c clean =
    let fits : SFits w64 c.args.self.now.table.id = search rules in
    let yes : holds c.args.condition (is_some c.in_ok-before.before) ≡ true =
    ap (holds c.args.condition) (sym c.is_some.ensures) ∙ sym c.holds.ensures ∙ c.if-not-holds.false in
    inl (
      c.in_ok-bytes.bytes,
      c.in_ok-bytes.ensures,
      (
        c.get_own.new.conn,
        Ok c.in_ok-before.before,
        c.in_ok-before.ensures.ran (c.delete.ensures.clean clean),
        when _ _ yes (
          c.delete.new.conn,
          Err c.in_err-delete.field-0.0,
          rw (to_z-of_z fits) at (c.in_err-delete.ensures.ran clean),
          (is_err c.from_residual-in_err-delete.result _ c.from_residual-in_err-delete.ensures.1, refl),
        ),
      ),
    )

pub returns-clause-ran : goal.returns-clause-ran
unfolding DeletesIf
returns-clause-ran g c clean =
    let fits : SFits w64 c.args.self.now.table.id = search rules in
    let yes : holds c.args.condition (is_some c.in_ok-before.before) ≡ true =
    ap (holds c.args.condition) (sym c.is_some.ensures) ∙ sym c.holds.ensures ∙ c.if-not-holds.false in
    inl (
      c.in_ok-bytes.bytes,
      c.in_ok-bytes.ensures,
      (
        c.get_own.new.conn,
        Ok c.in_ok-before.before,
        c.in_ok-before.ensures.ran (c.delete.ensures.clean clean),
        when _ _ yes (c.delete.new.conn, Ok tt, rw (to_z-of_z fits) at (c.in_ok-delete.ensures.ran clean), (refl, refl)),
      ),
    )
