use Rattle.dynamo_value.proofs.Reordered.{same_fitted}
use Rattle.dynamo_value.proofs.attribute_value.fit.Goals as goal

pub returns : goal.returns
returns c =
    same_fitted c.args.map.now.entries c.shrink_to_fit.new.self.entries c.shrink_to_fit.ensures.entries.0 c.shrink_to_fit.ensures.unique
