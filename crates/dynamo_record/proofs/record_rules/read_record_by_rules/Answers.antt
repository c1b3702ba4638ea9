use Rattle.dynamo_record.proofs.Common.{listed}
use Rattle.dynamo_record.proofs.ByRules.{by_source}
use Rattle.dynamo_record.proofs.record_rules.read_record_by_rules.Goals as goal

pub returns : goal.returns
returns g c = by_source g.R.RecordRules.rules (listed g.R.Record.about g.R.Fields.FieldList.about) g.D.Error.Error.fault (g.D.Reader.source c.args.deserializer) c.read_shown.result c.read_shown.ensures
