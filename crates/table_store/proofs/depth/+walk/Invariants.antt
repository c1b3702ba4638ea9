use Rattle.std.proofs.Common.{◌≡◌, drop}
use Rattle.table_store.specs.Depth.{entries_within, values_within}
use Rattle.table_store.proofs.depth.+walk.Given as goal

abbrev pub invariant-list_within-loop-value : goal.invariant-list_within-loop-value
invariant-list_within-loop-value l =
    values_within l.levels l.values.items ≡ values_within l.levels (drop l.value-index l.value-items)

abbrev pub invariant-map_within-loop-value : goal.invariant-map_within-loop-value
invariant-map_within-loop-value l =
    entries_within l.levels l.members.entries ≡ entries_within l.levels l.value-iterator
