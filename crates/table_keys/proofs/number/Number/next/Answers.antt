use Rattle.table_keys.proofs.NextNumbers.{above_held, below_held, greatest_held}
use Rattle.table_keys.proofs.number.Number.next.Goals as goal

pub returns-then-self-clause-next : goal.returns-then-self-clause-next
returns-then-self-clause-next c =
    let below = c.size_below-coefficient in
    below_held c.self.inside c.args.self.now below.result.0 below.result.1 c.self.view_is c.if-self.true
    below.ensures.full below.ensures.byte below.ensures.next

pub returns-in-Some-clause-next : goal.returns-in-Some-clause-next
returns-in-Some-clause-next c =
    let is = c.in-Some.ensures in
    above_held c.self.inside c.args.self.now c.in-Some.coefficient c.in-Some.power c.self.view_is c.if-self.false
    is.0 is.1 is.2

pub returns-in-None-clause-next : goal.returns-in-None-clause-next
returns-in-None-clause-next c =
    greatest_held c.self.inside c.args.self.now c.self.view_is c.if-self.false c.in-None.ensures
