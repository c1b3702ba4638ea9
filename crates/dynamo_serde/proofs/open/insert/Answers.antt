use Rattle.dynamo_value.proofs.Members.{inserted}
use Rattle.dynamo_serde.proofs.open.insert.Goals as goal

pub returns-in-Ok : goal.returns-in-Ok
returns-in-Ok c = inserted c.args.entries.now c.insert.new.self c.args.key c.args.value c.in-Ok.ensures.updates
