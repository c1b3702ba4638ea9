use Rattle.std.proofs.lemmas.Bool.Decides.{same_from_decides}
use Rattle.dynamo_value.specs.Equal.{av_eq_decides}
use Rattle.dynamo_value.proofs.attribute_value.AttributeValuePartialEq.TheImpl.Goals as goal

pub eq-tells : goal.eq-tells
eq-tells c = same_from_decides c.result _ c.ensures (av_eq_decides _ _)
