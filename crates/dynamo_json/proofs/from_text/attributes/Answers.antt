use Rattle.std.proofs.Common.{◌≡◌, ◌∷◌, sym, ◌∙◌, arith}
use Rattle.dynamo_json.proofs.Common.{tokens, members_view, item_json, members_json}
use Rattle.json.specs.Token as token
use Rattle.dynamo_json.proofs.InText.{object_stands, whole}
use Rattle.dynamo_json.proofs.from_text.attributes.Goals as goal

pub returns-clause-members : goal.returns-clause-members
returns-clause-members c =
    let ts = tokens c.args.text.now in
    let ms = members_view c.in_ok-map.map.entries in
    let first : ts ≡ token.begin_object ∷ c.begin_object.new.reader = sym c.in_ok-reader.ensures.ok ∙ c.in_ok-begin_object.ensures.ok in
    let stands = object_stands 127 ts c.begin_object.new.reader c.members.new.reader (members_json ms) (omega arith) first c.in_ok-map.ensures.members in
    whole c.args.text.now c.members.new.reader (item_json ms) c.in_ok-at_end.ensures.ok stands
