use Rattle.dynamo_record.proofs.EmptyTold.{no_pairs_told}
use Rattle.dynamo_record.proofs.omitted.HashMapOmittable.is_default.Goals as goal

pub returns : goal.returns
returns g c = rw c.len.ensures.len (no_pairs_told g.K.ShapedKey.about_key.about.tells g.V.Shaped.about.tells c.args.self.now.entries)
