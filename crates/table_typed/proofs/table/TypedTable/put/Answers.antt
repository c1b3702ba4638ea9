use Rattle.std.proofs.Common.{inl, inr}
use Rattle.std.proofs.lemmas.Result.{err_from_is_err_and}
use Rattle.table_keys.specs.KeyOrder.{key_cmp}
use Rattle.table_typed.proofs.Put.{not_equal}
use Rattle.table_typed.proofs.table.TypedTable.put.Goals as goal

pub returns-in_err-put_returning_key-clause-err : goal.returns-in_err-put_returning_key-clause-err
returns-in_err-put_returning_key-clause-err g c =
    let failed = c.from_residual-in_err-put_returning_key in
    let handed_on = err_from_is_err_and failed.result failed.ensures.1 in
    let refused = c.in_err-put_returning_key.ensures.puts.0 in
    rw (handed_on.1, handed_on.2) (elim refused [
      | inl reads ↦ inl (c.in_ok-item.item, c.in_ok-item.ensures.ok, reads)
      | inr lacks ↦ inr lacks
    ])

pub returns-clause-holds : goal.returns-clause-holds
returns-clause-holds g c =
    let puts = c.in_ok-put_returning_key.ensures.puts in
    (c.in_ok-item.item, puts.1.1, c.in_ok-item.ensures.ok)

pub returns-clause-others : goal.returns-clause-others
returns-clause-others g c other differ =
    let key = c.in_ok-put_returning_key.field-0 in
    let puts = c.in_ok-put_returning_key.ensures.puts in
    puts.1.2 other (not_equal (key_cmp key other) differ)
