use Rattle.std.proofs.Common.{◌≡◌, ◌++◌, List}
use Rattle.std.specs.Vec.Iter.{into_iter_items}
use Rattle.dynamo_json.proofs.Common.{Entry, members_view}
use Rattle.dynamo_json.proofs.layout.by_name.Given as goal

abbrev pub invariant-loop-entry : goal.invariant-loop-entry
invariant-loop-entry l =
    (goal.iterator-loop-entry).can_next l.entry-iterator × (goal.iterator-loop-entry).is_finite l.entry-iterator
    × (l.entries.items ++ l.entry-iterator ≡ l.initial.entry-iterator)

-- the entries before those that are left are in the map
abbrev pub invariant-loop-name : goal.invariant-loop-name
invariant-loop-name l =
    (done : List Entry) × (done ++ into_iter_items l.name-iterator ≡ into_iter_items l.initial.name-iterator)
    × (members_view l.sorted.entries ≡ members_view done)
