use Rattle.std.proofs.Common.{not}
use Rattle.std.specs.Ordering.{is_lt, ord_max, ord_min}
use Rattle.std.specs.Prelude.{◌&&◌}
use Rattle.table_keys.specs.KeyLaws.{key_total}
use Rattle.table_keys.specs.KeyOrder.{key_cmp}
use Rattle.table_keys.specs.Places.{is_from_place, place_cmp}
use Rattle.table_keys.specs.Ranges.{is_found_between}
use Rattle.table_keys.proofs.Narrowed.{alike, both_and, from_max, from_min, last_of, neither}
use Rattle.table_keys.proofs.query.Query.narrowed.Goals as goal

pub returns-in_ok-at-in-Some : goal.returns-in_ok-at-in-Some
returns-in_ok-at-in-Some c =
    let low = c.args.low in
    let high = c.args.high in
    let start = c.in-Some.start.now in
    let place = c.in_ok-at-in-Some.field-0 in
    alike (is_found_between c.args.self.now low high)
    (λ key. is_from_place low key && not (is_from_place (ord_min place_cmp high place) key))
    (λ key. rw (
      c.if-self.true,
      c.in-Some.is,
      from_min high place key,
      c.in_ok-at-in-Some.ensures key,
      key_total.antisymm key start,
    )
    (neither (is_from_place low key) (is_from_place high key) (key_cmp start key)))
    c.between.result (rw (← c.min.ensures) c.between.ensures)

pub returns-in_ok-at-in-Some-2 : goal.returns-in_ok-at-in-Some-2
returns-in_ok-at-in-Some-2 c =
    let low = c.args.low in
    let high = c.args.high in
    let place = c.in_ok-at-in-Some-2.field-0 in
    alike (is_found_between c.args.self.now low high)
    (λ key. is_from_place (ord_max place_cmp low place) key && not (is_from_place high key))
    (λ key. rw (
      c.if-self.false,
      c.in-Some-2.is,
      from_max low place key,
      c.in_ok-at-in-Some-2.ensures key,
    )
    (last_of (is_from_place low key) (not (is_from_place high key))
    (is_lt (key_cmp c.in-Some-2.start.now key))))
    c.between-in-Some-2.result (rw (← c.max.ensures) c.between-in-Some-2.ensures)

pub returns-in-None : goal.returns-in-None
returns-in-None c =
    alike (is_found_between c.args.self.now c.args.low c.args.high)
    (λ key. is_from_place c.args.low key && not (is_from_place c.args.high key))
    (λ key. rw c.in-None.is
    (both_and (is_from_place c.args.low key) (not (is_from_place c.args.high key))))
    c.between-in-None.result c.between-in-None.ensures
