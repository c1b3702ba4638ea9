use Rattle.std.proofs.Common.{sym, subst, refl}
use Rattle.std.specs.List.Sorted.{IsStrictlySortedBy}
use Rattle.dynamo_record.proofs.Common.{told_each}
use Rattle.dynamo_shape.proofs.SetsTold.{told_ascends}
use Rattle.dynamo_record.proofs.impls.sets.BTreeSetShaped.conforms.Goals as goal

-- the members are in order, and so is what they tell
pub returns : goal.returns
returns g c =
    let key = g.T.ShapedKey.about_key in
    let members = c.args.self.now.keys in
    let in_order = subst (λ cmp. IsStrictlySortedBy cmp members) (sym g.met.T.ShapedKey.is_key.cmp) c.into_iter-member-iterator.ensures.into_iter_gives.4 in
    ((told_each key.about.tells members, refl, c.loop-member.invariant (rw c.in-None.ensures.steps.0 tt)), told_ascends key.about.tells key.cmp key.below_as_told members in_order)
