use Rattle.std.proofs.Common.{◌≡◌, ◌<◌, ◌∙◌, length, ap, arith}
use Rattle.std.proofs.lemmas.List.{length-map}
use Rattle.dynamo_value.specs.Item.{items_view, maps_of}
use Rattle.dynamo_value.specs.View.{members_view}
use Rattle.dynamo_serde.proofs.Places.{in_items}
use Rattle.dynamo_serde.proofs.located.from_items_located.Goals as goal

pub returns-in-Err-clause-place : goal.returns-in-Err-clause-place
returns-in-Err-clause-place g c =
    let maps = maps_of c.args.items in
    let count : length (items_view c.args.items) ≡ length maps = length-map maps (λ m. members_view m.entries) in
    let lent = ap length (c.deref-map-items.ensures.value ∙ c.into-maps.ensures) in
    let lt : c.loop-index.index < length (items_view c.args.items) = omega (arith, c.loop-index-test.true, lent, count) in
    in_items c.loop-index.index (length (items_view c.args.items)) c.in-Err.field-0.place c.in_element-place.result lt c.in_element-place.ensures
