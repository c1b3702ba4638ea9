-- Places among the keys, each just before a key or just after it.
use Rattle.std.specs.Prelude.{Bool, if◌then◌else◌}
use Rattle.std.specs.Ordering.{bool_cmp, is_le, is_lt, ordering_then}
use Rattle.std.specs.declared.cmp.Ordering.{Ordering}
use Rattle.table_keys.specs.KeyOrder.{key_cmp}
use Rattle.table_keys.specs.declared.key.Key.{Key}
use Rattle.table_keys.specs.declared.place.Place.{Place}

-- whether x comes from a place on, which is just before what it is at, or just after
abbrev pub is_from : {K : Type 0} → (K → K → Ordering) → Bool → K → K → Bool
is_from cmp behind at x = if behind then is_lt (cmp at x) else is_le (cmp at x)

abbrev pub is_from_place : Place → Key → Bool
is_from_place place key = is_from key_cmp place.is_behind place.key key

-- the order of places: by their keys, and at one key the place before it first
abbrev pub place_cmp : Place → Place → Ordering
place_cmp place other =
    ordering_then (key_cmp place.key other.key) (bool_cmp place.is_behind other.is_behind)
