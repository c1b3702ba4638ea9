use Rattle.dynamo_record.proofs.Variants.{enum_answered}
use Rattle.dynamo_record.proofs.unit_enum.read_unit_enum.Goals as goal

pub returns : goal.returns
returns g c = enum_answered g.T.UnitEnum.about g.D.Error.Error.fault (g.D.Reader.source c.args.deserializer) c.read_shown.result c.read_shown.ensures
