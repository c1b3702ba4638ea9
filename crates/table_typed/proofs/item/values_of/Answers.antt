use Rattle.std.proofs.Common.{inl, inr}
use Rattle.std.proofs.lemmas.Result.{err_from_is_err_and}
use Rattle.dynamo_value.specs.Kind.{fault_of}
use Rattle.table_typed.proofs.Found.{all_read, goes_on, stops}
use Rattle.table_typed.proofs.item.values_of.Goals as goal

pub returns-in_err-read_item-clause-err : goal.returns-in_err-read_item-clause-err
returns-in_err-read_item-clause-err g c =
    let handed_on = err_from_is_err_and c.from_residual-in_err-read_item.result c.from_residual-in_err-read_item.ensures.1 in
    rw (handed_on.1, handed_on.2) (elim c.in_err-read_item.ensures.read [
      | inl lacks ↦ inl lacks
      | inr refused ↦ inr (stops g.T.AsItem.reads_item c.args.found.now c.loop-item.item-index
          c.loop-item-item.result c.loop-item.values.items (fault_of c.in_err-read_item.field-0.0)
          c.loop-item-test.true c.loop-item-item.is c.loop-item.invariant refused)
    ])

pub loop-item-preserved : goal.loop-item-preserved
loop-item-preserved g c =
    rw c.in_ok-push.ensures.items (goes_on g.T.AsItem.reads_item c.args.found.now c.loop-item.item-index c.loop-item-item.result c.loop-item.values.items c.in_ok-read_item.field-0
    c.loop-item-test.true c.loop-item-item.is c.loop-item.invariant c.in_ok-read_item.ensures.read)

pub returns-clause-read : goal.returns-clause-read
returns-clause-read g c = all_read g.T.AsItem.reads_item c.args.found.now c.loop-item.item-index c.loop-item.values.items c.loop-item-test.false c.loop-item.invariant
