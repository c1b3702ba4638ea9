use Rattle.std.proofs.Common.{arith}
use Rattle.dynamo_json.proofs.conforms.octets.Goals as goal

pub returns : goal.returns
returns t i = let fits = t.type_inv._bytes i in omega arith
