use Rattle.dynamo_record.proofs.EmptyTold.{no_members_told}
use Rattle.dynamo_record.proofs.omitted.HashSetOmittable.is_default.Goals as goal

pub returns : goal.returns
returns g c = let key = g.T.ShapedKey.about_key in rw c.len.ensures.len (no_members_told key.about.tells key.cmp c.args.self.now.keys)
