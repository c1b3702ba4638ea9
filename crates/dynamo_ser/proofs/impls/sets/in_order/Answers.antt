use Rattle.std.proofs.Common.{map, ap, sym, ◌∙◌}
use Rattle.dynamo_ser.specs.Members.{members_onto}
use Rattle.dynamo_ser.proofs.MembersInOrder.{insert_now}
use Rattle.dynamo_ser.proofs.impls.sets.in_order.Goals as goal

pub loop-member-preserved : goal.loop-member-preserved
loop-member-preserved g c =
    let put = ap (map (λ r. r.now)) c.in-Ok.ensures.keys ∙ insert_now g.T.Ord.cmp c.loop-member.ordered.keys c.in-Some.member in
    ap (λ ms. members_onto g.T.Ord.cmp ms c.next.new.self) put ∙ (ap (members_onto g.T.Ord.cmp (map (λ r. r.now) c.loop-member.ordered.keys)) (sym c.in-Some.ensures.steps) ∙ c.loop-member.invariant)
