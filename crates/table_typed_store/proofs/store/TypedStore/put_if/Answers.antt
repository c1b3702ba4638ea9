use Rattle.std.proofs.Common.{Err, Ok, ap, inl, inr, refl}
use Rattle.table_store.proofs.Called.{is_err}
use Rattle.table_typed_store.proofs.store.TypedStore.put_if.Goals as goal

pub returns-in_err-item-clause-ran : goal.returns-in_err-item-clause-ran
returns-in_err-item-clause-ran g c clean =
    inr (c.in_err-item.field-0.0, c.in_err-item.ensures.err, is_err c.from_residual.result _ c.from_residual.ensures.1, refl)

pub returns-in_err-key-clause-ran : goal.returns-in_err-key-clause-ran
returns-in_err-key-clause-ran g c clean = inl (
  c.in_ok-item.item,
  c.in_ok-item.ensures.ok,
  (
    Err c.in_err-key.field-0.0,
    c.in_err-key.ensures.ran clean,
    is_err c.from_residual-in_err-key.result _ c.from_residual-in_err-key.ensures.1,
  ),
)

pub returns-clause-ran : goal.returns-clause-ran
returns-clause-ran g c clean = inl (
  c.in_ok-item.item,
  c.in_ok-item.ensures.ok,
  (
    c.put_if_returning_key.result,
    c.put_if_returning_key.ensures.ran clean,
    rw c.in_ok-key.was (ap (λ there. Ok (c.in_ok-key.key, there)) c.is_some.ensures),
  ),
)
