use Rattle.dynamo_value.proofs.Members.{inserted}
use Rattle.dynamo_write.proofs.builders.put.Goals as goal

pub returns-in-Ok-clause-ok : goal.returns-in-Ok-clause-ok
returns-in-Ok-clause-ok c = inserted c.args.map.now c.insert.new.self c.args.key c.args.value c.in-Ok.ensures.updates
