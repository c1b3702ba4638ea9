use Rattle.std.proofs.Common.{◌≡◌, ◌+◌, ◌*◌, List, ◌++◌}
use Rattle.std.specs.Vec.Iter.{into_iter_items}
use Rattle.dynamo_value.specs.Entries.{Lent}
use Rattle.dynamo_serde.specs.Tape.{row}
use Rattle.dynamo_serde.proofs.Laying.{ListUpTo, entries_laid}
use Rattle.dynamo_serde.proofs.tape.+lay.Given as goal

abbrev pub decreases-lay : goal.decreases-lay
decreases-lay l = 2 * l.levels + 1

abbrev pub decreases-lay_list : goal.decreases-lay_list
decreases-lay_list l = 2 * l.levels

abbrev pub decreases-lay_map : goal.decreases-lay_map
decreases-lay_map l = 2 * l.levels

abbrev pub invariant-lay_list-loop-item : goal.invariant-lay_list-loop-item
invariant-lay_list-loop-item l = ListUpTo l.item-items l.item-index (row l.initial.tokens.items) (row l.tokens.items)

-- the entries before those that are left are laid
abbrev pub invariant-lay_map-loop-key : goal.invariant-lay_map-loop-key
invariant-lay_map-loop-key l =
    (done : List Lent) × (done ++ into_iter_items l.key-iterator ≡ into_iter_items l.initial.key-iterator)
    × (row l.tokens.items ≡ row l.initial.tokens.items ++ entries_laid done)
