use Rattle.std.proofs.Common.{◌≡◌, Err, Ok, false, inl, inr, refl, rules, true}
use Rattle.std.specs.Ordering.{is_ne}
use Rattle.table_keys.specs.KeyOrder.{key_cmp}
use Rattle.table_store.specs.Calls.{PutsChanged}
use Rattle.table_store.specs.declared.error.StoreError.{StoreError}
use Rattle.table_store.proofs.Called.{is_err, unless, when}
use Rattle.table_store.proofs.Kept.{on_ok}
use Rattle.table_store.proofs.store.TableStore.put_changed.Goals as goal

pub returns-clause-own : goal.returns-clause-own
returns-clause-own g c =
    on_ok c.put_at.result (c.in_ok-own_key.own_key, c.in_ok-own_key.ensures.reads, search rules)

pub returns-in_err-own_key-clause-ran : goal.returns-in_err-own_key-clause-ran
unfolding PutsChanged
returns-in_err-own_key-clause-ran g c clean =
    (Err c.in_err-own_key.field-0.0, c.in_err-own_key.ensures.reads, (is_err c.from_residual.result _ c.from_residual.ensures.1, refl))

pub returns-then-is_ne-clause-ran : goal.returns-then-is_ne-clause-ran
unfolding PutsChanged
returns-then-is_ne-clause-ran g c clean =
    let other : is_ne (key_cmp c.in_ok-own_key.own_key c.args.key.now) ≡ true = search rules in
    (Ok c.in_ok-own_key.own_key, c.in_ok-own_key.ensures.reads, when _ _ other (refl, refl))

pub returns-in_err-key-clause-ran : goal.returns-in_err-key-clause-ran
unfolding PutsChanged
returns-in_err-key-clause-ran g c clean =
    let same : is_ne (key_cmp c.in_ok-own_key.own_key c.args.key.now) ≡ false = search rules in (
      Ok c.in_ok-own_key.own_key,
      c.in_ok-own_key.ensures.reads,
      unless _ _ same (inr (is_err c.from_residual-in_err-key.result StoreError.OutOfMemory c.from_residual-in_err-key.ensures.1, refl)),
    )

pub returns-clause-ran : goal.returns-clause-ran
unfolding PutsChanged
returns-clause-ran g c clean =
    let same : is_ne (key_cmp c.in_ok-own_key.own_key c.args.key.now) ≡ false = search rules in (
      Ok c.in_ok-own_key.own_key,
      c.in_ok-own_key.ensures.reads,
      unless _ _ same (inl (c.in_ok-key.key, c.in_ok-key.ensures, c.put_at.ensures.ran clean)),
    )
