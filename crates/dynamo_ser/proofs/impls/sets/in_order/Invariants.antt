use Rattle.std.proofs.Common.{◌≡◌, map}
use Rattle.dynamo_ser.specs.Members.{members_onto, members_in_order}
use Rattle.dynamo_ser.proofs.impls.sets.in_order.Given as goal

-- these members, with those that are left, are all in order
abbrev pub invariant-loop-member : goal.invariant-loop-member
invariant-loop-member g l = members_onto g.T.Ord.cmp (map (λ r. r.now) l.ordered.keys) l.member-iterator ≡ members_in_order g.T.Ord.cmp l.set.keys
