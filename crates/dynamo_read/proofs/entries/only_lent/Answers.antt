use Rattle.std.proofs.Common.{rules, sym, ◌∙◌}
use Rattle.dynamo_read.proofs.Single.{single_of_more}
use Rattle.dynamo_value.specs.Entries.{entry_of}
use Rattle.dynamo_read.proofs.entries.only_lent.Goals as goal

pub returns-in-Some-next : goal.returns-in-Some-next
returns-in-Some-next c =
    let more = single_of_more c.args.members.now.entries c.next.new.self c.next-2.new.self (entry_of c.in-Some.entry) (entry_of c.in-Some-next.field-0)
    (sym c.iter-entries.ensures.rest ∙ c.in-Some.ensures.steps) c.in-Some-next.ensures.steps c.iter-entries.ensures.unique in
    search rules
