use Rattle.dynamo_json.proofs.Common.{view}
use Rattle.dynamo_json.proofs.ReadBack.{value_back}
use Rattle.dynamo_json.proofs.dynamo.AttributeValueDynamoJson.from_json_text.Goals as goal

pub returns-in-Ok-clause-read : goal.returns-in-Ok-clause-read
returns-in-Ok-clause-read c = value_back (view c.in-Ok.value) c.in-Ok.ensures.bytes
