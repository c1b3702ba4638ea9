-- Which items a query finds, and in which order.
use Rattle.std.specs.Prelude.{Bool, true, false, ◌&&◌, ◌==◌, List, Option, Some, None, map, take, reverse, string_bytes, nat_eq, if◌then◌else◌}
use Rattle.std.specs.Borrow.{Bor}
use Rattle.std.specs.List.{filter, starts_with}
use Rattle.std.specs.Ordering.{is_eq, is_lt, is_le, is_gt, is_ge, is_some_and}
use Rattle.std.specs.declared.cmp.Ordering.{Ordering}
use Rattle.dynamo_value.specs.declared.item.Item.{Item}
use Rattle.table_keys.specs.KeyOrder.{kind_rank, value_cmp, key_cmp}
use Rattle.table_keys.specs.declared.key.Key.{Key}
use Rattle.table_keys.specs.declared.key.KeyValue.{KeyValue}
use Rattle.table_keys.specs.declared.query.Query.{Query}
use Rattle.table_keys.specs.declared.query.SortCondition.{SortCondition}

-- how two values of one kind compare
abbrev pub compared : KeyValue → KeyValue → Option Ordering
compared value other = if kind_rank value == kind_rank other then Some (value_cmp value other) else None

-- the value begins with the bytes of another text or byte string
abbrev pub begins_with : KeyValue → KeyValue → Bool
begins_with (KeyValue.S text) (KeyValue.S prefix) = starts_with nat_eq (string_bytes text) (string_bytes prefix)
begins_with (KeyValue.B bytes) (KeyValue.B prefix) = starts_with nat_eq bytes.items prefix.items
begins_with value prefix = false

-- The value of a sort key meets a condition. Only values of the condition's kind do.
abbrev pub meets : SortCondition → KeyValue → Bool
meets SortCondition.Any value = true
meets (SortCondition.Equal bound) value = is_some_and is_eq (compared value bound.now)
meets (SortCondition.Less bound) value = is_some_and is_lt (compared value bound.now)
meets (SortCondition.LessOrEqual bound) value = is_some_and is_le (compared value bound.now)
meets (SortCondition.Greater bound) value = is_some_and is_gt (compared value bound.now)
meets (SortCondition.GreaterOrEqual bound) value = is_some_and is_ge (compared value bound.now)
meets (SortCondition.Between low high) value = is_some_and is_ge (compared value low.now) && is_some_and is_le (compared value high.now)
meets (SortCondition.BeginsWith prefix) value = begins_with value prefix.now

-- an item without a sort key meets no condition but `Any`
abbrev pub meets_sort : SortCondition → Option KeyValue → Bool
meets_sort condition (Some value) = meets condition value
meets_sort SortCondition.Any None = true
meets_sort condition None = false

-- the key comes after the one after which to start, in the direction of the query
abbrev pub is_behind : Bool → Option (Bor Key) → Key → Bool
is_behind backward None key = true
is_behind backward (Some start) key = if backward then is_lt (key_cmp key start.now) else is_lt (key_cmp start.now key)

-- the query finds the items of its partition whose sort key meets its condition, after the key after which it starts
abbrev pub finds : Query → Key → Bool
finds query key = is_eq (value_cmp key.partition query.partition.now) && (meets_sort query.sort key.sort && is_behind query.backward query.start_after key)

abbrev pub in_direction : {A : Type 0} → Bool → List A → List A
in_direction backward found = if backward then reverse found else found

-- the items that a query finds, in its direction, up to its limit
abbrev pub answer : Query → List (Key × Item) → List (Key × Item)
answer query entries = take query.limit (in_direction query.backward (filter (λ e. finds query e.0) entries))

-- a page of a scan: the items after a key, up to a limit
abbrev pub rest : Option (Bor Key) → List (Key × Item) → List (Key × Item)
rest start entries = filter (λ e. is_behind false start e.0) entries

-- what is lent, as it is in the table
abbrev pub seen : List (Bor Key × Bor Item) → List (Key × Item)
seen found = map (λ p. (p.0.now, p.1.now)) found
