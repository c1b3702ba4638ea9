use Rattle.std.proofs.Common.{◌≡◌, ◌+◌, ◌≤◌, length, ◌++◌}
use Rattle.std.specs.Vec.{vec_len, vec_capacity}
use Rattle.dynamo_read.proofs.entries.sorted.Given as goal

-- the list has room for what is left, and is followed by it
abbrev pub invariant-loop-entry : goal.invariant-loop-entry
invariant-loop-entry l =
    (goal.iterator-loop-entry).can_next l.entry-iterator × (goal.iterator-loop-entry).is_finite l.entry-iterator
    × (vec_len l.list + length l.entry-iterator ≤ vec_capacity l.list) × (l.list.items ++ l.entry-iterator ≡ l.initial.entry-iterator)
