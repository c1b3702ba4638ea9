-- The sort keys that meet a condition are those between two places.
use Rattle.std.proofs.Common.{◌≡◌, Bool, true, false, not, Less, Equal, Greater, Option, Some}
use Rattle.std.proofs.Common.{None, refl, arith}
use Rattle.std.proofs.lemmas.Bool.Decides.{nat_tests}
use Rattle.std.specs.Borrow.{Bor}
use Rattle.std.specs.Option.{option_cmp}
use Rattle.std.specs.Ordering.{is_eq, nat_cmp, ordering_reverse}
use Rattle.std.specs.Prelude.{◌&&◌, if◌then◌else◌}
use Rattle.table_keys.specs.KeyLaws.{value_total}
use Rattle.table_keys.specs.KeyOrder.{kind_rank, value_cmp}
use Rattle.table_keys.specs.declared.key.KeyValue.{KeyValue}
use Rattle.table_keys.specs.Places.{is_from}
use Rattle.table_keys.specs.Queries.{compared, meets_sort}
use Rattle.table_keys.specs.Ranges.{is_from_kind, is_past_kind}
use Rattle.table_keys.specs.declared.query.SortCondition.{SortCondition}

-- equal values compare alike
pub equal_values : (value other third : KeyValue) → value_cmp value other ≡ Equal
    → value_cmp value third ≡ value_cmp other third
equal_values = value_total.congr

-- how a value compares to a bound, by how the bound and its kind compare to the value
compared_is : (b w : KeyValue)
    → (compared w b ≡ (if is_eq (nat_cmp (kind_rank b) (kind_rank w))
    then Some (ordering_reverse (value_cmp b w)) else None))
    × (nat_cmp (kind_rank b) (kind_rank w) ≡ Less → value_cmp b w ≡ Less)
    × (nat_cmp (kind_rank b) (kind_rank w) ≡ Greater → value_cmp b w ≡ Greater)
compared_is b w = grind (arith, nat_tests, value_total.antisymm w b)

-- the sort key comes from just before a bound on, or from just after it
abbrev from_bound : Bool → Bor KeyValue → Option KeyValue → Bool
from_bound behind b sort = is_from (option_cmp value_cmp) behind (Some b.now) sort

-- the conditions with one bound
pub one_bound : (b : Bor KeyValue) (sort : Option KeyValue)
    → (meets_sort (SortCondition.Equal b) sort
    ≡ (from_bound false b sort && not (from_bound true b sort)))
    × (meets_sort (SortCondition.Less b) sort
    ≡ (is_from_kind b.now sort && not (from_bound false b sort)))
    × (meets_sort (SortCondition.LessOrEqual b) sort
    ≡ (is_from_kind b.now sort && not (from_bound true b sort)))
    × (meets_sort (SortCondition.Greater b) sort
    ≡ (from_bound true b sort && not (is_past_kind b.now sort)))
    × (meets_sort (SortCondition.GreaterOrEqual b) sort
    ≡ (from_bound false b sort && not (is_past_kind b.now sort)))
one_bound b None = (refl, refl, refl, refl, refl)
one_bound b (Some w) = grind (arith, compared_is b.now w)

-- two bounds of one kind
pub two_bounds : (b d : Bor KeyValue) (sort : Option KeyValue) → kind_rank b.now ≡ kind_rank d.now
    → meets_sort (SortCondition.Between b d) sort
    ≡ (from_bound false b sort && not (from_bound true d sort))
two_bounds b d None same = refl
two_bounds b d (Some w) same = grind (arith, compared_is b.now w, compared_is d.now w)
