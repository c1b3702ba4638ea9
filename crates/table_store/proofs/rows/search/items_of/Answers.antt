use Rattle.std.proofs.Common.{◌∙◌, subst, take}
use Rattle.table_store.specs.Runs.{AreRead, listed}
use Rattle.table_store.proofs.Ran.{at_most, found, not_found}
use Rattle.table_store.proofs.rows.search.items_of.Goals as goal

pub returns-clause-limit : goal.returns-clause-limit
returns-clause-limit g c =
    let read : AreRead (take c.args.limit c.in_ok-rows.rows.items) (listed c.read_items.result) =
    subst (λ rows. AreRead rows (listed c.read_items.result)) (c.deref.ensures.value ∙ c.truncate.ensures.items) c.read_items.ensures in
    at_most c.in_ok-rows.rows.items c.args.limit c.read_items.result read

pub returns-in_err-rows-clause-ran : goal.returns-in_err-rows-clause-ran
returns-in_err-rows-clause-ran g c clean =
    not_found g.S.Store c.args.conn.now c.query_all.new.self c.args.sql.now _ c.args.limit c.in_err-rows.field-0.0
    c.from_residual.result c.from_residual.ensures.1 (c.in_err-rows.ensures.err clean)

pub returns-clause-ran : goal.returns-clause-ran
returns-clause-ran g c clean =
    found g.S.Store c.args.conn.now c.query_all.new.self c.args.sql.now _ c.args.limit c.in_ok-rows.rows.items
    (listed c.read_items.result) (c.in_ok-rows.ensures.ok clean)
    (subst (λ rows. AreRead rows (listed c.read_items.result)) (c.deref.ensures.value ∙ c.truncate.ensures.items) c.read_items.ensures)
