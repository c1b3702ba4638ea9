-- On what a change of a table depends.
use Rattle.std.specs.Prelude.{Bool, true, not}
use Rattle.table_keys.specs.declared.condition.Condition.{Condition}

-- whether a condition holds at a key that has an item, or has none
abbrev pub holds : Condition → Bool → Bool
holds Condition.Always exists = true
holds Condition.Exists exists = exists
holds Condition.NotExists exists = not exists
