use Rattle.dynamo_record.specs.UnitEnums.{IsNumber}
use Rattle.dynamo_record.proofs.Variants.{number_there, numbers_end}
use Rattle.dynamo_record.proofs.unit_enum.variant_at.Goals as goal

pub returns-then-number-variants : goal.returns-then-number-variants
unfolding IsNumber
returns-then-number-variants g c = λ numbers count are. number_there numbers c.args.variants.now count c.args.number c.index-variants-number.result are c.if-number-variants.true c.index-variants-number.is

pub returns-else-number-variants : goal.returns-else-number-variants
unfolding IsNumber
returns-else-number-variants g c = λ numbers count are. numbers_end numbers c.args.variants.now count c.args.number are c.if-number-variants.false
