use Rattle.std.proofs.Common.{rules}
use Rattle.serde_dynamo.specs.AttributeDatum.{item_datum}
use Rattle.serde_dynamo.specs.Item.{item_view}
use Rattle.example_types.proofs.own_types.both_item_json.Goals as goal

pub returns : goal.returns
returns c =
    let item = c.args.item.now in
    let law = c.attribute_value.ensures in
    let dynamo = c.in_ok-to_json.ensures in
    let back = law.item_back (item_view item) (item_datum item) dynamo.bytes (law.item_order item) (law.item_tells item dynamo.keys) in
    let is_plain = back.3 in
    search rules
