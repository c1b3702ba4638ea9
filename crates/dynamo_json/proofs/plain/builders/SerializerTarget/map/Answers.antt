use Rattle.dynamo_json.proofs.Objects.{object_view}
use Rattle.dynamo_json.proofs.plain.builders.SerializerTarget.map.Goals as goal

pub returns : goal.returns
returns c = object_view c.args.map
