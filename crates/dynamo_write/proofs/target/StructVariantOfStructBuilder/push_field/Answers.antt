use Rattle.dynamo_write.specs.Target.{one_member}
use Rattle.dynamo_write.proofs.Pushed.{field_pushed}
use Rattle.dynamo_write.proofs.target.StructVariantOfStructBuilder.push_field.Goals as goal

pub returns : goal.returns
returns g c = λ d is fs r given.
    let wrote = g.met.T.Target.answers (g.T.Target.over c.args.self.now.alloc) d c.args.written is in
    field_pushed g.T.Target.about c.args.self.now.fields.items c.args.key c.args.written (one_member g.T.Target.about c.args.self.now.key.now) d fs r wrote (rw c.in_ok-push.ensures.ok at given)
