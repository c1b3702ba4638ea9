use Rattle.dynamo_shape.proofs.OneAnswer.{determined}
use Rattle.dynamo_shape.proofs.laws.determined.Goals as goal

pub returns : goal.returns
returns c = determined
