use Rattle.std.proofs.Common.{◌≡◌, ◌++◌, map}
use Rattle.dynamo_value.specs.Entries.{entry_of}
use Rattle.dynamo_value.proofs.entries.entries_by_key.Given as goal

-- the list is followed by what is left of the map
abbrev pub invariant-loop-key : goal.invariant-loop-key
invariant-loop-key l = l.members.entries ≡ map entry_of l.entries.items ++ l.key-iterator
