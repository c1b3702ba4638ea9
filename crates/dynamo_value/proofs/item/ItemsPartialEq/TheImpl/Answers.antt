use Rattle.std.proofs.lemmas.Bool.Decides.{same_from_decides}
use Rattle.dynamo_value.specs.Equal.{items_eq_decides}
use Rattle.dynamo_value.proofs.item.ItemsPartialEq.TheImpl.Goals as goal

pub eq-tells : goal.eq-tells
eq-tells c = same_from_decides c.result _ c.ensures (items_eq_decides _ _)
