use Rattle.dynamo_record.proofs.Variants.{unit_conforms}
use Rattle.dynamo_record.proofs.unit_enum.conform_unit_enum.Goals as goal

pub returns : goal.returns
returns g c = unit_conforms g.T.UnitEnum.about c.args.value.now
