use Rattle.dynamo_record.proofs.EmptyTold.{no_elements_told}
use Rattle.dynamo_record.proofs.omitted.BTreeSetOmittable.is_default.Goals as goal

pub returns : goal.returns
returns g c = rw c.len.ensures.len (no_elements_told g.T.ShapedKey.about_key.about.tells c.args.self.now.keys)
