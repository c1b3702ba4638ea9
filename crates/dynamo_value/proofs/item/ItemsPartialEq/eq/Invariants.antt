use Rattle.std.proofs.Common.{◌≡◌, length}
use Rattle.dynamo_value.specs.Item.{items_view, tables_view}
use Rattle.dynamo_value.proofs.item.ItemsPartialEq.eq.Given as goal

-- the two are the same exactly where what is left of both is the same
abbrev pub invariant-loop-map : goal.invariant-loop-map
invariant-loop-map l =
    let a = l.map-iterator.a.rest.now in let b = l.map-iterator.b.rest.now in
    (length a ≡ length b)
    × (tables_view a ≡ tables_view b → items_view l.self ≡ items_view l.other)
    × (items_view l.self ≡ items_view l.other → tables_view a ≡ tables_view b)
