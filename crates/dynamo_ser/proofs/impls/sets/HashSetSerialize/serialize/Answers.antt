use Rattle.std.proofs.Common.{map, ap, subst, inl, inr, ◌∙◌}
use Rattle.dynamo_ser.specs.Datum as datum
use Rattle.dynamo_ser.proofs.MembersInOrder.{each_now}
use Rattle.dynamo_ser.proofs.impls.sets.HashSetSerialize.serialize.Goals as goal

-- the ordered references are written as their members are
pub returns-in-Ok : goal.returns-in-Ok
returns-in-Ok g c =
    let same = each_now g.T.Serialize.tells c.in-Ok.ordered.keys ∙ ap (map g.T.Serialize.tells) c.in-Ok.ensures in
    elim c.serialize.ensures [
      | inl answer ↦ inl (subst (λ ds. g.S.Outcomes.outcome c.args.serializer (datum.seq (datum.elements_of ds)) c.serialize.result) same answer)
      | inr lacks ↦ absurd lacks.0
    ]
