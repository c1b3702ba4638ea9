use Rattle.table_keys.proofs.Partitions.{answers}
use Rattle.table_keys.proofs.query.Query.key_range.Goals as goal

pub returns : goal.returns
returns c =
    let meets = rw c.in-Some.is at c.in_ok-sorts.ensures in
    answers c.args.self.now c.in-Some.sorts c.in_ok-low.low c.in_ok-high.high meets
    c.in_ok-low.ensures c.in_ok-high.ensures
    c.narrowed.result c.narrowed.ensures
