use Rattle.std.proofs.lemmas.Bool.Decides.{same_from_decides}
use Rattle.dynamo_value.specs.Equal.{members_eq_decides}
use Rattle.dynamo_value.proofs.item.ItemPartialEq.TheImpl.Goals as goal

pub eq-tells : goal.eq-tells
eq-tells c = same_from_decides c.result _ c.ensures (members_eq_decides _ _)
