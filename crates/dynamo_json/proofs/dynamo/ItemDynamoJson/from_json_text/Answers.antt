use Rattle.std.proofs.Common.{◌≡◌, Ok, sym, subst}
use Rattle.dynamo_value.specs.Table.{Table}
use Rattle.dynamo_json.proofs.Common.{members_view, item_json, parsed_item}
use Rattle.dynamo_json.proofs.ReadBack.{members_back}
use Rattle.dynamo_json.proofs.dynamo.ItemDynamoJson.from_json_text.Goals as goal

pub returns-in-Ok-clause-read : goal.returns-in-Ok-clause-read
returns-in-Ok-clause-read c =
    subst (λ (m : Table). parsed_item (item_json (members_view m.entries)) ≡ Ok (members_view m.entries)) (sym c.from.ensures)
    (members_back (members_view c.in-Ok.map.entries) c.in-Ok.ensures.bytes)
