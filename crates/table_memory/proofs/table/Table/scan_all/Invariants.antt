use Rattle.std.proofs.Common.{◌≡◌, ◌++◌, length}
use Rattle.table_memory.specs.Content.{entries_of}
use Rattle.table_keys.specs.Queries.{rest, seen}
use Rattle.table_memory.proofs.table.Table.scan_all.Given as goal

-- what is read and what is left are all
abbrev pub invariant-loop-all : goal.invariant-loop-all
invariant-loop-all l = seen l.all.items ++ rest l.start (entries_of l.self) ≡ entries_of l.self

abbrev pub decreases-loop-all : goal.decreases-loop-all
decreases-loop-all l = length (rest l.start (entries_of l.self))
