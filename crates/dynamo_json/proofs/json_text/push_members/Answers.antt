use Rattle.std.proofs.Common.{◌∙◌}
use Rattle.dynamo_json.proofs.Common.{members_view, item_json}
use Rattle.dynamo_json.proofs.Appended.{appended}
use Rattle.dynamo_json.proofs.json_text.push_members.Goals as goal

pub returns : goal.returns
returns c = appended (item_json (members_view c.args.map.now.entries)) c.object-done.result _ _ _ _ _ _ c.is_ok.ensures.value (c.object-done.ensures.before ∙ c.after-printer.ensures.before) c.after-printer.ensures.none c.object-done.ensures.ok c.into_text.ensures
