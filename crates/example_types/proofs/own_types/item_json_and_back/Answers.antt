use Rattle.std.proofs.Common.{rules}
use Rattle.serde_dynamo.specs.AttributeDatum.{item_datum}
use Rattle.serde_dynamo.specs.Item.{item_view}
use Rattle.example_types.proofs.own_types.item_json_and_back.Goals as goal

pub returns-in_err-written-clause-err : goal.returns-in_err-written-clause-err
returns-in_err-written-clause-err c =
    let item = c.args.item.now in
    let law = c.attribute_value.ensures in
    let dynamo = c.in_ok-json.ensures in
    let back = law.item_back (item_view item) (item_datum item) dynamo.bytes (law.item_order item) (law.item_tells item dynamo.keys) in
    let writes = back.1 in
    search rules

pub returns-in_err-read-clause-err : goal.returns-in_err-read-clause-err
returns-in_err-read-clause-err c =
    let item = c.args.item.now in
    let law = c.attribute_value.ensures in
    let dynamo = c.in_ok-json.ensures in
    let back = law.item_back (item_view item) (item_datum item) dynamo.bytes (law.item_order item) (law.item_tells item dynamo.keys) in
    let writes = back.1 in
    let reads = back.2 in
    search rules

pub returns-clause-back : goal.returns-clause-back
returns-clause-back c =
    let item = c.args.item.now in
    let law = c.attribute_value.ensures in
    let dynamo = c.in_ok-json.ensures in
    let back = law.item_back (item_view item) (item_datum item) dynamo.bytes (law.item_order item) (law.item_tells item dynamo.keys) in
    let writes = back.1 in
    let reads = back.2 in
    search rules
