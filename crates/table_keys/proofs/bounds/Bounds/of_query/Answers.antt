use Rattle.std.proofs.Common.{MatchOption, subst}
use Rattle.table_keys.specs.Ranges.{FindsBetween, FindsNone}
use Rattle.table_keys.proofs.PlaceBytes.{bounded}
use Rattle.table_keys.proofs.bounds.Bounds.of_query.Goals as goal

pub returns : goal.returns
returns c =
    let query = c.args.query.now in
    let between : FindsBetween query c.in-Some.range =
    subst (λ o. MatchOption o (FindsNone query) (FindsBetween query)) c.in-Some.is c.in_ok-range.ensures in
    bounded query c.in-Some.range (record { low = c.in_ok-place_bytes.field-0; high = c.in_ok-place_bytes-2.field-0 }) between c.in_ok-place_bytes.ensures c.in_ok-place_bytes-2.ensures
