use Rattle.std.proofs.Common.{Ok, sym, ap, ◌∙◌}
use Rattle.dynamo_write.specs.Target.{one_member}
use Rattle.dynamo_write.proofs.Pushed.{list_pushed}
use Rattle.dynamo_write.proofs.target.TupleVariantOfListBuilder.push_element.Goals as goal

pub returns : goal.returns
returns g c = λ d is ds r given.
    let t = g.T.Target.about in
    let wrote = g.met.T.Target.answers (g.T.Target.over c.args.self.now.alloc) d c.args.written is ∙ ap Ok (sym c.kept.ensures) in
    list_pushed t c.args.self.now.values.items c.kept.result (λ parts. one_member t c.args.self.now.key.now (t.list parts)) d ds r wrote (rw c.in_ok-push.ensures.items at given)
