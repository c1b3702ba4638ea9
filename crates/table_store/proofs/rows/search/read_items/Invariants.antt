use Rattle.std.proofs.Common.{take}
use Rattle.std.specs.List.{AllZip}
use Rattle.table_store.specs.Runs.{IsItemOf}
use Rattle.table_store.proofs.rows.search.read_items.Given as goal

-- the items are those of the rows so far
abbrev pub invariant-loop-row : goal.invariant-loop-row
invariant-loop-row l = AllZip IsItemOf (take l.row-index l.rows) l.items.items
