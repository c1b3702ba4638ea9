use Rattle.std.proofs.Common.{◌≡◌, Ok, sym, subst}
use Rattle.dynamo_value.specs.Table.{Table}
use Rattle.dynamo_json.proofs.Common.{members_view, item_json, parsed_item}
use Rattle.dynamo_json.proofs.ReadBack.{members_back}
use Rattle.dynamo_json.proofs.Spelled.{spelled}
use Rattle.dynamo_json.proofs.under.item_under.Goals as goal

pub returns-in-Ok-clause-read : goal.returns-in-Ok-clause-read
returns-in-Ok-clause-read c =
    subst (λ (m : Table). parsed_item (item_json (members_view m.entries)) ≡ Ok (members_view m.entries)) (sym c.from.ensures)
    (members_back (members_view c.in-Ok.map.entries) c.in-Ok.ensures.bytes)

pub returns-in-Err-Unlike-clause-written : goal.returns-in-Err-Unlike-clause-written
returns-in-Err-Unlike-clause-written c members may is same =
    c.in-Err-Unlike.ensures.follows c.in-Err-Unlike.field-0-is members (spelled c.args.text.now c.args.name.now members may is)
