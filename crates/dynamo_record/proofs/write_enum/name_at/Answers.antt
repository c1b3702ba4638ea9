use Rattle.dynamo_record.proofs.OneVariant.{name_there, name_past}
use Rattle.dynamo_record.proofs.write_enum.name_at.Goals as goal

pub returns-in-Some : goal.returns-in-Some
returns-in-Some c = name_there (λ n. n.now) c.args.names.now c.args.place c.in-Some.name.now c.in-Some.ensures.lookup.3.0 c.in-Some.ensures.lookup.1

pub returns-in-None : goal.returns-in-None
returns-in-None c = name_past (λ n. n.now) c.args.names.now c.args.place c.in-None.ensures.lookup.3
