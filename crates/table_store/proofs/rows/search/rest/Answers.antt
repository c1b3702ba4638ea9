use Rattle.std.proofs.Common.{◌∙◌, ap, rules, to_z-of_z, w64, SFits}
use Rattle.sqlite.specs.declared.types.Value.TheVariants.{Int}
use Rattle.table_store.proofs.rows.search.rest.Goals as goal

pub returns-clause-ran : goal.returns-clause-ran
returns-clause-ran g c clean =
    let limit : SFits w64 c.count_of.result = search rules in
    rw (c.params-to_sql.ensures ∙ ap Int (to_z-of_z c.ranges.id), c.params-to_sql-2.ensures, c.params-to_sql-3.ensures, c.params-to_sql-4.ensures ∙ ap Int (to_z-of_z limit ∙ c.count_of.ensures))
    at (c.items_of.ensures.ran clean)
