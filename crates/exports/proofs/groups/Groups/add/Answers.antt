use Rattle.std.proofs.Common.{rules}
use Rattle.exports.proofs.groups.Groups.add.Goals as goal

pub returns-in-Some-clause-counts : goal.returns-in-Some-clause-counts
returns-in-Some-clause-counts c = (c.in_ok-name.name, search rules)

pub returns-in_ok-insert-clause-counts : goal.returns-in_ok-insert-clause-counts
returns-in_ok-insert-clause-counts c = (c.in_ok-name.name, search rules)

pub returns-else-len-self-clause-counts : goal.returns-else-len-self-clause-counts
returns-else-len-self-clause-counts c = (c.in_ok-name.name, search rules)
