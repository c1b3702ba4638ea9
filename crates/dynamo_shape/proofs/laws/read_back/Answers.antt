use Rattle.dynamo_shape.proofs.Back.{back}
use Rattle.dynamo_shape.proofs.Exactly.{exactly}
use Rattle.dynamo_shape.proofs.Flat.{flat_clear}
use Rattle.dynamo_shape.proofs.WellKeyed.{writes_same}
use Rattle.dynamo_shape.proofs.laws.read_back.Goals as goal

pub returns-clause-nearly : goal.returns-clause-nearly
returns-clause-nearly c = back

pub returns-clause-exactly : goal.returns-clause-exactly
returns-clause-exactly c = exactly

pub returns-clause-clear : goal.returns-clause-clear
returns-clause-clear c = flat_clear

pub returns-clause-same : goal.returns-clause-same
returns-clause-same c = writes_same
