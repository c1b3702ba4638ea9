-- The keys that a query finds, as those between two places of the keys' order.
use Rattle.std.specs.Prelude.{◌≡◌, Bool, false, not, ◌&&◌, Option, Some, None}
use Rattle.std.specs.Option.{IfSome, option_cmp}
use Rattle.std.specs.Ordering.{is_le, is_lt, nat_cmp}
use Rattle.table_keys.specs.Held.{IsHeld, IsHeldKey}
use Rattle.table_keys.specs.KeyOrder.{kind_rank, value_cmp}
use Rattle.table_keys.specs.declared.key.Key.{Key}
use Rattle.table_keys.specs.declared.key.KeyValue.{KeyValue}
use Rattle.table_keys.specs.Places.{is_from, is_from_place}
use Rattle.table_keys.specs.Queries.{finds, is_behind, meets_sort}
use Rattle.std.specs.declared.cmp.Ordering.TheVariants.{Equal}
use Rattle.table_keys.specs.declared.key_range.KeyRange.{KeyRange}
use Rattle.table_keys.specs.declared.place.Place.{Place}
use Rattle.table_keys.specs.declared.query.Query.{Query}
use Rattle.table_keys.specs.declared.query.SortCondition.{SortCondition}
use Rattle.table_keys.specs.declared.sort_range.SortPlace.{SortPlace}
use Rattle.table_keys.specs.declared.sort_range.SortRange.{SortRange}

-- ---- keys

abbrev pub lies_between : KeyRange → Key → Bool
lies_between range key = is_from_place range.low key && not (is_from_place range.high key)

-- the query finds a key exactly where it lies between the two places
abbrev pub FindsBetween : Query → KeyRange → Type 0
FindsBetween query range = (key : Key) → IsHeldKey key → finds query key ≡ lies_between range key

-- the query finds no key
abbrev pub FindsNone : Query → Type 0
FindsNone query = (key : Key) → IsHeldKey key → finds query key ≡ false

-- ---- sort keys

abbrev pub is_from_sort : SortPlace → Option KeyValue → Bool
is_from_sort place sort = is_from (option_cmp value_cmp) place.is_behind place.value sort

-- nothing comes from the end of the partition on
abbrev pub is_from_end : Option SortPlace → Option KeyValue → Bool
is_from_end (Some place) sort = is_from_sort place sort
is_from_end None sort = false

-- a sort key meets the condition exactly where it lies between the two places
abbrev pub MeetsBetween : SortCondition → SortRange → Type 0
MeetsBetween condition range = (sort : Option KeyValue) → IfSome sort IsHeld
    → meets_sort condition sort ≡ (is_from_sort range.low sort && not (is_from_end range.high sort))

-- no sort key meets the condition
abbrev pub MeetsNone : SortCondition → Type 0
MeetsNone condition = (sort : Option KeyValue) → meets_sort condition sort ≡ false

-- the place is just before the value, or just after it
abbrev pub IsPlaceAt : Bool → KeyValue → SortPlace → Type 0
IsPlaceAt behind value place = (sort : Option KeyValue)
    → is_from_sort place sort ≡ is_from (option_cmp value_cmp) behind (Some value) sort

-- the sort key is a value of this kind or of one that comes after it
abbrev pub is_from_kind : KeyValue → Option KeyValue → Bool
is_from_kind value None = false
is_from_kind value (Some sort) = is_le (nat_cmp (kind_rank value) (kind_rank sort))

-- the sort key is a value of a kind that comes after this one
abbrev pub is_past_kind : KeyValue → Option KeyValue → Bool
is_past_kind value None = false
is_past_kind value (Some sort) = is_lt (nat_cmp (kind_rank value) (kind_rank sort))

-- the place is the first of the value's kind
abbrev pub IsKindStart : KeyValue → SortPlace → Type 0
IsKindStart value place = (sort : Option KeyValue) → IfSome sort IsHeld
    → is_from_sort place sort ≡ is_from_kind value sort

-- the place is the first after the value's kind
abbrev pub IsKindEnd : KeyValue → Option SortPlace → Type 0
IsKindEnd value place = (sort : Option KeyValue) → IfSome sort IsHeld
    → is_from_end place sort ≡ is_past_kind value sort

-- no value lies between this one and the next
abbrev pub IsNextValue : KeyValue → KeyValue → Type 0
IsNextValue value next = (other : KeyValue) → IsHeld other
    → is_lt (value_cmp value other) ≡ is_le (value_cmp next other)

-- the place is one of the partition: at this sort key, and on the same side
abbrev pub IsPlaceIn : KeyValue → SortPlace → Place → Type 0
IsPlaceIn partition sort place = (value_cmp place.key.partition partition ≡ Equal)
    × (place.key.sort ≡ sort.value) × (place.is_behind ≡ sort.is_behind)

-- the place is that of the partition at this end of the sort keys: the end of all is the first place
-- of the partition that comes next
abbrev pub IsEndIn : KeyValue → Option SortPlace → Place → Type 0
IsEndIn partition (Some sort) place = IsPlaceIn partition sort place
IsEndIn partition None place = IsNextValue partition place.key.partition
    × (place.key.sort ≡ None) × (place.is_behind ≡ false)

-- what lies from the low place up to the high one, after the key after which the query starts
abbrev pub is_found_between : Query → Place → Place → Key → Bool
is_found_between query low high key = is_from_place low key && not (is_from_place high key)
    && is_behind query.backward query.start_after key
