use Rattle.std.proofs.Common.{◌≤◌, All, length}
use Rattle.table_store.specs.Found.{IsFound}
use Rattle.table_store.proofs.rows.search.find.Given as goal

abbrev pub invariant-loop : goal.invariant-loop
invariant-loop g l = All (IsFound l.table.schema l.query) l.found.items × (length l.found.items ≤ l.query.limit)
