use Rattle.dynamo_write.proofs.Pushed.{entry_pushed}
use Rattle.dynamo_write.proofs.target.MapOfSerializeMap.push_entry.Goals as goal

pub returns-clause-takes : goal.returns-clause-takes
returns-clause-takes g c = λ k v named is ps r given.
    let wrote = g.met.T.Target.answers (g.T.Target.over c.args.self.now.alloc) v c.args.written is in
    entry_pushed g.T.Target.about c.args.self.now.entries.items c.args.key c.args.written k v ps r named wrote (rw c.in_ok-push.ensures.items at given)
