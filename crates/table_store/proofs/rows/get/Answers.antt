use Rattle.std.proofs.Common.{◌∙◌, ap, refl, slice_get, sym, to_z-of_z, None, Ok, Some}
use Rattle.sqlite.specs.declared.types.Value.TheVariants.{Int}
use Rattle.table_store.proofs.Ran.{first_found, got, none_found, not_got, unread}
use Rattle.table_store.proofs.rows.get.Goals as goal

pub returns-in_err-found-clause-ran : goal.returns-in_err-found-clause-ran
returns-in_err-found-clause-ran g c clean =
    not_got g.S.Store c.args.conn.now c.query_all.new.self c.args.id c.args.key.now c.in_err-found.field-0.0 c.from_residual.result c.from_residual.ensures.1
    (rw (c.params-to_sql.ensures ∙ ap Int (to_z-of_z c.ranges.id), c.params-to_sql-2.ensures, c.params-to_sql-3.ensures) at (c.in_err-found.ensures.err clean))

pub returns-in_err-read_item-in-Some-clause-ran : goal.returns-in_err-read_item-in-Some-clause-ran
returns-in_err-read_item-in-Some-clause-ran g c clean =
    let rows = c.in_ok-found.found.items in
    let r = c.from_residual-in_err-read_item-in-Some.result in
    got g.S.Store c.args.conn.now c.query_all.new.self c.args.id c.args.key.now rows r
    (rw (c.params-to_sql.ensures ∙ ap Int (to_z-of_z c.ranges.id), c.params-to_sql-2.ensures, c.params-to_sql-3.ensures) at (c.in_ok-found.ensures.ok clean))
    (first_found rows c.in-Some.row.now r (ap (λ xs. slice_get xs 0) (sym c.deref.ensures.value) ∙ sym c.in-Some.ensures.value)
    (unread c.in-Some.row.now c.in_err-read_item-in-Some.field-0.0 r c.from_residual-in_err-read_item-in-Some.ensures.1 c.in_err-read_item-in-Some.ensures))

pub returns-in-Some-clause-ran : goal.returns-in-Some-clause-ran
returns-in-Some-clause-ran g c clean =
    let rows = c.in_ok-found.found.items in
    let item = c.in_ok-read_item-in-Some.field-0 in
    got g.S.Store c.args.conn.now c.query_all.new.self c.args.id c.args.key.now rows (Ok (Some item))
    (rw (c.params-to_sql.ensures ∙ ap Int (to_z-of_z c.ranges.id), c.params-to_sql-2.ensures, c.params-to_sql-3.ensures) at (c.in_ok-found.ensures.ok clean))
    (first_found rows c.in-Some.row.now (Ok (Some item)) (ap (λ xs. slice_get xs 0) (sym c.deref.ensures.value) ∙ sym c.in-Some.ensures.value)
    (item, refl, c.in_ok-read_item-in-Some.ensures))

pub returns-clause-ran : goal.returns-clause-ran
returns-clause-ran g c clean =
    let rows = c.in_ok-found.found.items in
    got g.S.Store c.args.conn.now c.query_all.new.self c.args.id c.args.key.now rows (Ok None)
    (rw (c.params-to_sql.ensures ∙ ap Int (to_z-of_z c.ranges.id), c.params-to_sql-2.ensures, c.params-to_sql-3.ensures) at (c.in_ok-found.ensures.ok clean))
    (none_found rows (ap (λ xs. slice_get xs 0) (sym c.deref.ensures.value) ∙ sym c.in-None.ensures.value))
