use Rattle.std.proofs.Common.{◌∙◌, ap, to_z-of_z}
use Rattle.sqlite.specs.declared.types.Value.TheVariants.{Int}
use Rattle.table_store.specs.Runs.{Deletes}
use Rattle.table_store.specs.Statements.{delete_text, place}
use Rattle.table_store.proofs.Ran.{changed, not_changed}
use Rattle.table_store.proofs.rows.delete.Goals as goal

pub returns-in_err-execute-clause-ran : goal.returns-in_err-execute-clause-ran
unfolding Deletes
returns-in_err-execute-clause-ran g c clean =
    not_changed g.S.Store c.args.conn.now c.execute.new.self delete_text (place c.args.id c.args.key.now) c.in_err-execute.field-0.0 c.from_residual.result c.from_residual.ensures.1
    (rw (c.params-to_sql.ensures ∙ ap Int (to_z-of_z c.ranges.id), c.params-to_sql-2.ensures, c.params-to_sql-3.ensures) at (c.in_err-execute.ensures.runs clean))

pub returns-clause-ran : goal.returns-clause-ran
unfolding Deletes
returns-clause-ran g c clean =
    changed g.S.Store c.args.conn.now c.execute.new.self delete_text (place c.args.id c.args.key.now) c.in_ok-execute.field-0
    (rw (c.params-to_sql.ensures ∙ ap Int (to_z-of_z c.ranges.id), c.params-to_sql-2.ensures, c.params-to_sql-3.ensures) at (c.in_ok-execute.ensures.runs clean))
