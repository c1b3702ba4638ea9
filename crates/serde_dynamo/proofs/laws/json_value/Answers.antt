use Rattle.dynamo_json.proofs.JsonBack.{json_back}
use Rattle.serde_dynamo.proofs.laws.json_value.Goals as goal

pub returns : goal.returns
returns c = json_back
