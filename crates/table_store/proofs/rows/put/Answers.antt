use Rattle.std.proofs.Common.{◌∙◌, ap, to_z-of_z}
use Rattle.sqlite.specs.declared.types.Value.TheVariants.{Int, Text}
use Rattle.table_store.specs.Statements.{put_text, row_of}
use Rattle.table_store.proofs.Ran.{changed, not_changed, not_put, put}
use Rattle.table_store.proofs.rows.put.Goals as goal

pub returns-in_default-clause-ran : goal.returns-in_default-clause-ran
returns-in_default-clause-ran g c clean = not_put g.S.Store c.args.conn.now c.args.conn.now c.args.id c.args.key.now c.args.item.now

pub returns-in_err-execute-clause-ran : goal.returns-in_err-execute-clause-ran
returns-in_err-execute-clause-ran g c clean =
    put g.S.Store c.args.conn.now c.execute.new.self c.args.id c.args.key.now c.args.item.now c.from_residual.result
    (not_changed g.S.Store c.args.conn.now c.execute.new.self put_text (row_of c.args.id c.args.key.now c.args.item.now) c.in_err-execute.field-0.0 c.from_residual.result c.from_residual.ensures.1
    (rw (c.params-to_sql.ensures ∙ ap Int (to_z-of_z c.ranges.id), c.params-to_sql-2.ensures, c.params-to_sql-3.ensures, c.params-to_sql-4.ensures ∙ ap Text c.in-Ok.ensures) at
    (c.in_err-execute.ensures.runs clean)))

pub returns-clause-ran : goal.returns-clause-ran
returns-clause-ran g c clean =
    put g.S.Store c.args.conn.now c.execute.new.self c.args.id c.args.key.now c.args.item.now _
    (changed g.S.Store c.args.conn.now c.execute.new.self put_text (row_of c.args.id c.args.key.now c.args.item.now) c.in_ok-execute.field-0
    (rw (c.params-to_sql.ensures ∙ ap Int (to_z-of_z c.ranges.id), c.params-to_sql-2.ensures, c.params-to_sql-3.ensures, c.params-to_sql-4.ensures ∙ ap Text c.in-Ok.ensures) at
    (c.in_ok-execute.ensures.runs clean)))
