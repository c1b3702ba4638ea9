use Rattle.dynamo_record.proofs.Common.{listed}
use Rattle.dynamo_record.proofs.Described.{by_source}
use Rattle.dynamo_record.proofs.record.read_record.Goals as goal

pub returns : goal.returns
returns g c = by_source (listed g.R.Record.about g.R.Fields.FieldList.about) g.D.Error.Error.fault (g.D.Reader.source c.args.deserializer) c.read_shown.result c.read_shown.ensures
