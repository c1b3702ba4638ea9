use Rattle.std.proofs.Common.{◌∙◌, Err, Ok, ap, to_z-of_z}
use Rattle.sqlite.specs.declared.types.Value.TheVariants.{Int}
use Rattle.table_store.specs.Runs.{Counts}
use Rattle.table_store.proofs.Called.{is_err}
use Rattle.table_store.proofs.Ran.{not_number}
use Rattle.table_store.proofs.rows.count.Goals as goal

pub returns-in_err-row-clause-ran : goal.returns-in_err-row-clause-ran
unfolding Counts
returns-in_err-row-clause-ran g c clean = (
  Err c.in_err-row.field-0.0,
  rw (c.params-to_sql.ensures ∙ ap Int (to_z-of_z c.ranges.id)) at (c.in_err-row.ensures.row clean),
  is_err c.from_residual.result _ c.from_residual.ensures.1,
)

pub returns-in_err-get-clause-ran : goal.returns-in_err-get-clause-ran
unfolding Counts
returns-in_err-get-clause-ran g c clean = (
  Ok c.in_ok-row.row,
  rw (c.params-to_sql.ensures ∙ ap Int (to_z-of_z c.ranges.id)) at (c.in_ok-row.ensures.row clean),
  not_number c.in_ok-row.row c.in_err-get.field-0.0 c.from_residual-in_err-get.result c.from_residual-in_err-get.ensures.1
      (λ remains within n is. c.in_err-get.ensures.kind remains within (n, is)),
)

pub returns-clause-ran : goal.returns-clause-ran
unfolding Counts
returns-clause-ran g c clean = (
  Ok c.in_ok-row.row,
  rw (c.params-to_sql.ensures ∙ ap Int (to_z-of_z c.ranges.id)) at (c.in_ok-row.ensures.row clean),
  c.in_ok-get.ensures.ok.1,
)
