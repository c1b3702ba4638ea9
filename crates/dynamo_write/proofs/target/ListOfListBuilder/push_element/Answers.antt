use Rattle.std.proofs.Common.{Ok, sym, ap, ◌∙◌}
use Rattle.dynamo_write.proofs.Pushed.{whole_list_pushed}
use Rattle.dynamo_write.proofs.target.ListOfListBuilder.push_element.Goals as goal

pub returns : goal.returns
returns g c = λ d is ds r given.
    let t = g.T.Target.about in
    let wrote = g.met.T.Target.answers (g.T.Target.over c.args.self.now.alloc) d c.args.written is ∙ ap Ok (sym c.kept.ensures) in
    whole_list_pushed t c.args.self.now.values.items c.kept.result t.list d ds r wrote (rw c.in_ok-push.ensures.items at given)
