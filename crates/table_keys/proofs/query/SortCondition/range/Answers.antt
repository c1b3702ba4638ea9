use Rattle.std.proofs.Common.{◌≡◌, arith}
use Rattle.table_keys.specs.KeyOrder.{kind_rank}
use Rattle.table_keys.proofs.Meets.{one_bound, two_bounds}
use Rattle.table_keys.proofs.query.SortCondition.range.Goals as goal

pub returns-in_ok-at-in-Equal-2 : goal.returns-in_ok-at-in-Equal-2
returns-in_ok-at-in-Equal-2 c = λ sort held.
    rw (c.in-Equal.is, c.in_ok-at-in-Equal.ensures sort, c.in_ok-at-in-Equal-2.ensures sort)
    (one_bound c.in-Equal.value sort).0

pub returns-in_ok-at-in-Less : goal.returns-in_ok-at-in-Less
returns-in_ok-at-in-Less c = λ sort held.
    rw (c.in-Less.is, c.of_kind.ensures sort held, c.in_ok-at-in-Less.ensures sort)
    (one_bound c.in-Less.value sort).1

pub returns-in_ok-at-in-LessOrEqual : goal.returns-in_ok-at-in-LessOrEqual
returns-in_ok-at-in-LessOrEqual c = λ sort held.
    rw (
      c.in-LessOrEqual.is,
      c.of_kind-in-LessOrEqual.ensures sort held,
      c.in_ok-at-in-LessOrEqual.ensures sort,
    )
    (one_bound c.in-LessOrEqual.value sort).2

pub returns-in_ok-at-in-Greater : goal.returns-in_ok-at-in-Greater
returns-in_ok-at-in-Greater c = λ sort held.
    rw (c.in-Greater.is, c.in_ok-at-in-Greater.ensures sort, c.past_kind.ensures sort held)
    (one_bound c.in-Greater.value sort).3

pub returns-in_ok-at-in-GreaterOrEqual : goal.returns-in_ok-at-in-GreaterOrEqual
returns-in_ok-at-in-GreaterOrEqual c = λ sort held.
    rw (
      c.in-GreaterOrEqual.is,
      c.in_ok-at-in-GreaterOrEqual.ensures sort,
      c.past_kind-in-GreaterOrEqual.ensures sort held,
    )
    (one_bound c.in-GreaterOrEqual.value sort).4

pub returns-in_ok-at-in-Between-2 : goal.returns-in_ok-at-in-Between-2
returns-in_ok-at-in-Between-2 c = λ sort held.
    let bounds = c.in-Between in
    let same : kind_rank bounds.low.now ≡ kind_rank bounds.high.now = omega arith in
    rw (bounds.is, c.in_ok-at-in-Between.ensures sort, c.in_ok-at-in-Between-2.ensures sort)
    (two_bounds bounds.low bounds.high sort same)
