use Rattle.std.proofs.Common.{◌≡◌, ◌++◌, List}
use Rattle.std.specs.List.{AllZip}
use Rattle.std.specs.Vec.Iter.{into_iter_items}
use Rattle.dynamo_value.specs.declared.item.Item.{Item}
use Rattle.table_typed_store.specs.Stored.{ReadsAs}
use Rattle.table_typed_store.proofs.store.TypedStore.values_from.Given as goal

-- the values are what the items before those that are left read as
abbrev pub invariant-loop-item : goal.invariant-loop-item
invariant-loop-item g l = (done : List Item) × (done ++ into_iter_items l.item-iterator ≡ l.fn.found.items)
    × AllZip (ReadsAs g.T.AsItem.reads_item) done l.values.items
