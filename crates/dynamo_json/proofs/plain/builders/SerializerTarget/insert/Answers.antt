use Rattle.std.proofs.Common.{ap, ◌∙◌}
use Rattle.serde_json.specs.View.{view}
use Rattle.dynamo_write.specs.Held.{held_entries}
use Rattle.dynamo_json.proofs.Objects.{inserted}
use Rattle.dynamo_json.proofs.plain.builders.SerializerTarget.insert.Goals as goal

pub returns-in-Ok-clause-ok : goal.returns-in-Ok-clause-ok
returns-in-Ok-clause-ok c = ap (held_entries view) c.in-Ok.ensures.entries ∙ inserted c.args.map.now.entries c.args.key c.args.value
