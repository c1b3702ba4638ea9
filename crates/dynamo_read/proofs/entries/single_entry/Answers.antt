use Rattle.std.proofs.Common.{rules, sym, ◌∙◌}
use Rattle.dynamo_read.proofs.Single.{single_of_more}
use Rattle.dynamo_read.proofs.entries.single_entry.Goals as goal

pub returns : goal.returns
returns c =
    let given = c.into_iter-entries.ensures.into_iter_gives in
    let more = single_of_more c.args.map.entries c.next.new.self c.next-2.new.self c.in-Some.entry c.in-Some-next.field-0
    (sym given.0 ∙ c.in-Some.ensures.steps) c.in-Some-next.ensures.steps given.4 in
    search rules
