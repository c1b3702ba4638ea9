-- The bytes of the sort keys of a partition that come from a place on.
use Rattle.std.proofs.Common.{◌≡◌, ◌∙◌, ℕ, List, [], ◌∷◌, ◌++◌, true, false, Ordering, Less}
use Rattle.std.proofs.Common.{Equal, Greater, refl, arith}
use Rattle.std.proofs.lemmas.Cmp.{alike_right}
use Rattle.table_keys.specs.KeyLaws.{value_total}
use Rattle.table_keys.specs.KeyOrder.{value_cmp}
use Rattle.table_keys.specs.declared.key.Key.{Key}
use Rattle.table_keys.specs.declared.key.KeyValue.{KeyValue}
use Rattle.table_keys.specs.declared.place.Place.{Place}
use Rattle.table_keys.proofs.NextValues.{empty_first, zero_added}
use Rattle.table_keys.specs.Ranges.{FindsBetween}
use Rattle.table_keys.specs.declared.key_range.KeyRange.{KeyRange}
use Rattle.table_keys.specs.declared.query.Query.{Query}
use Rattle.table_keys.specs.Between.{AreBounds, IsPlaceBytes}
use Rattle.table_keys.specs.declared.bounds.Bounds.{Bounds}
use Rattle.table_keys.specs.KeyBytes.{IsSortBytes}
use Rattle.table_keys.proofs.KeyBytesInOrder.{sorts}

module _ (partition : KeyValue) (place : Place) where
  -- the place's partition compares to that of a key of the partition as to the partition
  alike : (key : Key) (o : Ordering) → value_cmp key.partition partition ≡ Equal
      → value_cmp place.key.partition partition ≡ o
      → value_cmp place.key.partition key.partition ≡ o
  alike key o here e = alike_right value_total key.partition partition place.key.partition here ∙ e

  -- all of the partition comes from a place before it
  pub from_start : value_cmp place.key.partition partition ≡ Less → IsPlaceBytes partition place []
  from_start e key bytes here is = rw (alike key Less here e) (grind (arith, empty_first bytes))

  -- nothing of it comes from a place after it
  pub from_end : value_cmp place.key.partition partition ≡ Greater
      → IsPlaceBytes partition place (3 ∷ [])
  from_end e key bytes here is = rw (alike key Greater here e) (grind arith)

  -- from a place within it
  module _ (start : List ℕ) (e : value_cmp place.key.partition partition ≡ Equal)
      (is_start : IsSortBytes place.key.sort start) where
    pub from_before : place.is_behind ≡ false → IsPlaceBytes partition place start
    from_before before key bytes here is =
        rw (alike key Equal here e, before, sorts place.key.sort key.sort start bytes is_start is)

    pub from_behind : place.is_behind ≡ true → IsPlaceBytes partition place (start ++ 0 ∷ [])
    from_behind behind key bytes here is =
        rw (alike key Equal here e, behind, ← sorts place.key.sort key.sort start bytes is_start is)
        (zero_added start bytes)

-- the bytes of both ends of a query's range are its bounds
pub bounded : (query : Query) (range : KeyRange) (bounds : Bounds) → FindsBetween query range
    → IsPlaceBytes query.partition.now range.low bounds.low.items
    → IsPlaceBytes query.partition.now range.high bounds.high.items
    → AreBounds query bounds
bounded query range bounds finds_them low high key bytes held here is =
    finds_them key held ∙ rw (low key bytes here is, high key bytes here is) refl
