use Rattle.std.proofs.Common.{◌≡◌, ap, sym, ◌∙◌, subst}
use Rattle.dynamo_json.proofs.Common.{view-Object, members_view, item_json}
use Rattle.serde_json.specs.Data as json
use Rattle.serde_json.specs.View as sj
use Rattle.dynamo_value.specs.Table.{Table}
use Rattle.dynamo_json.specs.Texts.{HasTexts}
use Rattle.dynamo_json.proofs.ReadBack.{members_are}
use Rattle.dynamo_json.proofs.Texts.{has_texts}
use Rattle.dynamo_json.proofs.dynamo.ItemDynamoJson.from_json.Goals as goal

pub returns-clause-ok : goal.returns-clause-ok
returns-clause-ok c =
    let ms = sj.members_view c.in-Object.object.entries in
    let seen : sj.view c.args.json.now ≡ json.object ms = rw c.in-Object.is (view-Object c.in-Object.object) in
    let map = c.in_ok-members.field-0 in
    let read = members_are ms (members_view map.entries) (subst HasTexts seen (has_texts c.args.json.now)) c.in_ok-members.ensures.ok in
    seen ∙ ap json.object read ∙ ap (λ (m : Table). item_json (members_view m.entries)) (sym c.from.ensures)
