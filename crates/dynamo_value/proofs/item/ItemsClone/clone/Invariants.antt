use Rattle.std.proofs.Common.{◌≡◌, take}
use Rattle.dynamo_value.specs.Item.{tables_view}
use Rattle.dynamo_value.proofs.item.ItemsClone.clone.Given as goal

abbrev pub invariant-loop-map : goal.invariant-loop-map
invariant-loop-map l = tables_view l.maps.items ≡ tables_view (take l.map-index l.map-items)
