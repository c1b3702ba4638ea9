use Rattle.std.proofs.Common.{sym, ap, ◌∙◌}
use Rattle.dynamo_json.proofs.Common.{view-Array}
use Rattle.serde_json.specs.Data as json
use Rattle.dynamo_json.proofs.Objects.{before_nothing}
use Rattle.dynamo_json.proofs.plain.builders.SerializerTarget.list.Goals as goal

pub returns : goal.returns
returns c = view-Array c.args.values ∙ ap json.array (sym (before_nothing c.args.values.items))
