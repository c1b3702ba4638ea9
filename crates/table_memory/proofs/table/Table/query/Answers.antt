use Rattle.std.proofs.Common.{◌∙◌, sym, ap}
use Rattle.std.specs.Range.Bound.{bound_map}
use Rattle.table_memory.specs.Content.{entries_of}
use Rattle.table_keys.specs.Queries.{seen}
use Rattle.table_memory.proofs.Held.{answer_between, answer_none}
use Rattle.table_memory.proofs.table.Table.query.Goals as goal

pub returns-in_default : goal.returns-in_default
returns-in_default c =
    let none = rw c.in_default.is at c.in_ok-range.ensures in
    ap seen c.new.ensures.items ∙ sym (answer_none c.args.query.now
    (entries_of c.args.self.now) none c.args.self.now.held)

pub returns : goal.returns
returns c =
    let between = rw c.in-Some.is at c.in_ok-range.ensures in
    rw (← answer_between c.args.query.now c.in-Some.range
    (bound_map (λ x. x.now) c.bounds.result.0) (bound_map (λ x. x.now) c.bounds.result.1)
    (entries_of c.args.self.now) between c.bounds.ensures.between c.args.self.now.held)
    c.between.ensures
