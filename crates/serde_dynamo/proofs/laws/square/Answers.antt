use Rattle.dynamo_json.proofs.Agree.{square}
use Rattle.dynamo_json.proofs.PlainWritten.{plain_is_written}
use Rattle.serde_dynamo.proofs.laws.square.Goals as goal

pub returns-clause-agrees : goal.returns-clause-agrees
returns-clause-agrees c = square

pub returns-clause-written : goal.returns-clause-written
returns-clause-written c = plain_is_written
