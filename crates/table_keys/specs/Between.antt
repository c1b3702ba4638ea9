-- Bytes between which the sort keys are that a query finds.
use Rattle.std.specs.Prelude.{◌≡◌, ℕ, List, Bool, not, ◌&&◌}
use Rattle.std.specs.Ordering.{is_le}
use Rattle.std.specs.declared.cmp.Ordering.TheVariants.{Equal}
use Rattle.dynamo_value.specs.View.{text_cmp}
use Rattle.table_keys.specs.Held.{IsHeldKey}
use Rattle.table_keys.specs.KeyOrder.{value_cmp}
use Rattle.table_keys.specs.declared.key.Key.{Key}
use Rattle.table_keys.specs.declared.key.KeyValue.{KeyValue}
use Rattle.table_keys.specs.Places.{is_from_place}
use Rattle.table_keys.specs.Queries.{finds}
use Rattle.table_keys.specs.declared.place.Place.{Place}
use Rattle.table_keys.specs.declared.query.Query.{Query}
use Rattle.table_keys.specs.KeyBytes.{IsSortBytes}
use Rattle.table_keys.specs.declared.bounds.Bounds.{Bounds}

-- the bytes come from the low ones on, and before the high ones
abbrev pub is_within : Bounds → List ℕ → Bool
is_within bounds bytes = is_le (text_cmp bounds.low.items bytes) && not (is_le (text_cmp bounds.high.items bytes))

-- A key of the partition comes from the place on exactly where its sort key has bytes from these on.
abbrev pub IsPlaceBytes : KeyValue → Place → List ℕ → Type 0
IsPlaceBytes partition place start = (key : Key) (bytes : List ℕ)
    → value_cmp key.partition partition ≡ Equal → IsSortBytes key.sort bytes
    → is_from_place place key ≡ is_le (text_cmp start bytes)

-- The query finds a key of its partition exactly where the bytes of its sort key lie within the bounds.
abbrev pub AreBounds : Query → Bounds → Type 0
AreBounds query bounds = (key : Key) (bytes : List ℕ) → IsHeldKey key
    → value_cmp key.partition query.partition.now ≡ Equal → IsSortBytes key.sort bytes
    → finds query key ≡ is_within bounds bytes
