use Rattle.table_store.specs.Runs.{IsItemOf}
use Rattle.table_store.proofs.Ran.{row_unread, rows_want_memory}
use Rattle.table_store.proofs.Zipped.{all, one_more}
use Rattle.table_store.proofs.rows.search.read_items.Goals as goal

pub loop-row-preserved : goal.loop-row-preserved
loop-row-preserved c =
    rw c.in_ok-push.ensures.items (one_more IsItemOf c.args.rows.now c.loop-row.items.items c.loop-row.row-index c.row-item.result
    c.in_ok-read_item.field-0 c.loop-row-test.true c.row-item.is c.loop-row.invariant c.in_ok-read_item.ensures)

pub returns-in_err-read_item : goal.returns-in_err-read_item
returns-in_err-read_item c =
    row_unread c.args.rows.now c.loop-row.row-index c.in_err-read_item.field-0.0 c.from_residual.result c.loop-row-test.true
    c.from_residual.ensures.1 c.in_err-read_item.ensures

pub returns-in_err-push : goal.returns-in_err-push
returns-in_err-push c = rows_want_memory c.args.rows.now c.from_residual-in_err-push.result c.from_residual-in_err-push.ensures.1

pub returns : goal.returns
returns c = all IsItemOf c.args.rows.now c.loop-row.items.items c.loop-row.row-index c.loop-row-test.false c.loop-row.invariant
