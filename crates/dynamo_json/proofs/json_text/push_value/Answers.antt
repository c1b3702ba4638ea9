use Rattle.std.proofs.Common.{◌∙◌}
use Rattle.dynamo_json.proofs.Common.{view, json_of}
use Rattle.dynamo_json.proofs.Appended.{appended}
use Rattle.dynamo_json.proofs.json_text.push_value.Goals as goal

pub returns : goal.returns
returns c = appended (json_of (view c.args.value.now)) c.value-done.result _ _ _ _ _ _ c.is_ok.ensures.value (c.value-done.ensures.before ∙ c.after-printer.ensures.before) c.after-printer.ensures.none c.value-done.ensures.ok c.into_text.ensures
