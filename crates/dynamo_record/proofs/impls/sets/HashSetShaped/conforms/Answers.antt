use Rattle.std.proofs.Common.{sym, subst, refl}
use Rattle.std.specs.Cmp.{IsTotalOrder}
use Rattle.dynamo_ser.specs.Members.{members_in_order}
use Rattle.dynamo_record.proofs.Common.{conforms, told_each}
use Rattle.dynamo_shape.proofs.HashedSets.{members_sorted, in_order_told}
use Rattle.dynamo_shape.proofs.SetsRead.{all_in}
use Rattle.dynamo_shape.proofs.SetsTold.{told_ascends}
use Rattle.dynamo_record.proofs.impls.sets.HashSetShaped.conforms.Goals as goal

-- the members are put in order, and so is what they tell
pub returns : goal.returns
returns g c =
    let key = g.T.ShapedKey.about_key in
    let keys = c.args.self.now.keys in
    let members = members_in_order key.cmp keys in
    let total = subst IsTotalOrder (sym g.met.T.ShapedKey.is_key.cmp) g.met.T.Ord.total in
    let all = all_in (conforms key.about.shape) (told_each key.about.tells members) (told_each key.about.tells keys) (in_order_told key.about.tells key.cmp key.eq key.equal_as_told key.ordered_as_told keys) (c.loop-member.invariant (rw c.in-None.ensures.steps.0 tt)) in
    ((told_each key.about.tells members, refl, all), told_ascends key.about.tells key.cmp key.below_as_told members (members_sorted key.cmp total keys))
