use Rattle.std.proofs.Common.{◌≡◌, ◌++◌}
use Rattle.std.specs.List.{filter}
use Rattle.table_memory.specs.Content.{entries_of}
use Rattle.table_keys.specs.Queries.{finds, seen}
use Rattle.table_memory.proofs.table.Table.found_among_few.Given as goal

-- what is found, and what is still to be found, are all
abbrev pub invariant-loop-key : goal.invariant-loop-key
invariant-loop-key l = seen l.found.items ++ filter (λ e. finds l.query e.0) l.key-iterator ≡ filter (λ e. finds l.query e.0) (entries_of l.self)
