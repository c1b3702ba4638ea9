use Rattle.std.proofs.Common.{rules}
use Rattle.dynamo_ser.proofs.impls.attribute_value.ItemSerialize.serialize.Goals as goal

pub returns : goal.returns
returns g c = rw (← c.inner.ensures) (search rules)
