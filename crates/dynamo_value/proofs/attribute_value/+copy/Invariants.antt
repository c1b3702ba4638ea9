use Rattle.std.proofs.Common.{◌≡◌, List, ◌++◌, map, take}
use Rattle.dynamo_value.specs.View.{view, members_view}
use Rattle.dynamo_value.proofs.Members.{Entry}
use Rattle.dynamo_value.proofs.attribute_value.+copy.Given as goal

abbrev pub invariant-copy_list-loop-value : goal.invariant-copy_list-loop-value
invariant-copy_list-loop-value l = map view l.copies.items ≡ map view (take l.value-index l.value-items)

abbrev pub invariant-copy_map-loop-key : goal.invariant-copy_map-loop-key
invariant-copy_map-loop-key l =
    (done : List Entry) × (l.map.entries ≡ done ++ l.key-iterator) × (members_view l.copies.entries ≡ members_view done)
