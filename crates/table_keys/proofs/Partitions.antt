-- What a query finds lies between two places of its partition.
use Rattle.std.proofs.Common.{◌≡◌, ◌∙◌, Bool, true, false, not, Ordering, Less, Equal, Greater}
use Rattle.std.proofs.Common.{Option, Some, None}
use Rattle.std.proofs.Common.{Result, Ok, Err, arith}
use Rattle.std.specs.Ordering.{is_eq, ordering_reverse}
use Rattle.std.specs.Prelude.{◌&&◌, IfOk, MatchOption}
use Rattle.std.specs.declared.alloc.AllocError.{AllocError}
use Rattle.table_keys.specs.Held.{IsHeldKey}
use Rattle.table_keys.specs.KeyLaws.{value_total}
use Rattle.table_keys.specs.KeyOrder.{value_cmp}
use Rattle.table_keys.specs.declared.key.Key.{Key}
use Rattle.table_keys.specs.declared.key.KeyValue.{KeyValue}
use Rattle.table_keys.specs.Places.{is_from_place}
use Rattle.table_keys.specs.Queries.{finds}
use Rattle.table_keys.specs.Ranges.{FindsBetween, FindsNone, IsEndIn, IsPlaceIn, MeetsBetween}
use Rattle.table_keys.specs.Ranges.{is_found_between, is_from_end, lies_between}
use Rattle.table_keys.specs.declared.key_range.KeyRange.{KeyRange}
use Rattle.table_keys.specs.declared.place.Place.{Place}
use Rattle.table_keys.specs.declared.query.Query.{Query}
use Rattle.table_keys.specs.declared.sort_range.SortPlace.{SortPlace}
use Rattle.table_keys.specs.declared.sort_range.SortRange.{SortRange}

-- from an end of the partition on, by how the partition compares to a key's own, and whether its own end is passed
abbrev from_end : Bool → Ordering → Bool
from_end passed Less = true
from_end passed Equal = passed
from_end passed Greater = false

is_end : (partition : KeyValue) (key : Key) (sort : Option SortPlace) (place : Place)
    → IsEndIn partition sort place → IsHeldKey key → is_from_place place key
    ≡ from_end (is_from_end sort key.sort) (value_cmp partition key.partition)
is_end partition key (Some sort) place is held =
    rw (value_total.congr place.key.partition partition key.partition is.0, is.1, is.2)
    (grind arith)
is_end partition key None place is held = rw (is.1, is.2) (grind (arith, is.0 key.partition held.0))

here : (o p : Ordering) (meets low high behind : Bool) → p ≡ ordering_reverse o
    → meets ≡ (low && not high)
    → (is_eq p && (meets && behind)) ≡ (from_end low o && not (from_end high o) && behind)
here o p meets low high behind e is = grind arith

module _ (query : Query) (range : SortRange) (low high : Place)
    (meets : MeetsBetween query.sort range)
    (is_low : IsPlaceIn query.partition.now range.low low)
    (is_high : IsEndIn query.partition.now range.high high) where
  -- what a query finds lies between the two places, after the key after which it starts
  found_between : (key : Key) → IsHeldKey key → finds query key
      ≡ is_found_between query low high key
  found_between key held =
      let partition = query.partition.now in
      rw (
        is_end partition key (Some range.low) low is_low held,
        is_end partition key range.high high is_high held,
      )
      (here _ _ _ _ _ _ (value_total.antisymm key.partition partition) (meets key.sort held.1))

  -- the range of what is found between two places is that of the query
  pub answers : (result : Result (Option KeyRange) AllocError)
      → IfOk result (λ found. MatchOption found
      ((key : Key) → is_found_between query low high key ≡ false)
      (λ r. (key : Key) → is_found_between query low high key ≡ lies_between r key))
      → IfOk result (λ found. MatchOption found (FindsNone query) (FindsBetween query))
  answers (Ok None) none = λ key held. found_between key held ∙ none key
  answers (Ok (Some found)) is = λ key held. found_between key held ∙ is key
  answers (Err error) h = tt
