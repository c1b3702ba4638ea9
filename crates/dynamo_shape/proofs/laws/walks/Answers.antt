use Rattle.dynamo_shape.proofs.OneAnswer.{walks}
use Rattle.dynamo_shape.proofs.laws.walks.Goals as goal

pub returns : goal.returns
returns c = walks
