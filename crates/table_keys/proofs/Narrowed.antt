-- A range that is narrowed by the key after which a query starts.
use Rattle.std.proofs.Common.{◌≡◌, ◌∙◌, Bool, true, false, not, Ordering, Equal, Some, None, arith}
use Rattle.std.proofs.lemmas.Cmp.{on_total, then_total, upto}
use Rattle.std.specs.Cmp.{IsTotalOrder, bool_cmp_total}
use Rattle.std.specs.Ordering.{is_le, is_lt, ord_max, ord_min, ordering_reverse}
use Rattle.std.specs.Prelude.{◌&&◌, ◌||◌, MatchOption, Option}
use Rattle.table_keys.specs.KeyLaws.{key_total}
use Rattle.table_keys.specs.KeyOrder.{key_cmp}
use Rattle.table_keys.specs.declared.key.Key.{Key}
use Rattle.table_keys.specs.Places.{is_from_place, place_cmp}
use Rattle.table_keys.specs.Ranges.{lies_between}
use Rattle.table_keys.specs.declared.key_range.KeyRange.{KeyRange}
use Rattle.table_keys.specs.declared.place.Place.{Place}

place_total : IsTotalOrder place_cmp
place_total =
    then_total (on_total (λ p. p.key) key_total) (on_total (λ p. p.is_behind) bool_cmp_total)

-- equal keys compare alike
pub equal_keys : (key other third : Key) → key_cmp key other ≡ Equal
    → key_cmp key third ≡ key_cmp other third
equal_keys = key_total.congr

module _ {K : Type 0} {R : K → K → Ordering} (total : IsTotalOrder R) (p q x : K) where
  le_max : is_le (R (ord_max R p q) x) ≡ (is_le (R p x) && is_le (R q x))
  le_max = grind (arith, upto total p q x, upto total q p x, total.antisymm p q)

  le_min : is_le (R (ord_min R p q) x) ≡ (is_le (R p x) || is_le (R q x))
  le_min = grind (arith, upto total p q x, upto total q p x, total.antisymm p q)

  none_between : is_lt (R p q) ≡ false → (is_le (R p x) && not (is_le (R q x))) ≡ false
  none_between h = grind (arith, upto total q p x, total.antisymm p q)

-- the place just before a key
abbrev before : Key → Place
before key = record { key = key; is_behind = false }

-- a key comes from a place on where the place is no greater than the one before the key
from_is : (p : Place) (key : Key) → is_from_place p key ≡ is_le (place_cmp p (before key))
from_is p key = grind arith

pub nothing_between : (low high : Place) (key : Key) → is_lt (place_cmp low high) ≡ false
    → (is_from_place low key && not (is_from_place high key)) ≡ false
nothing_between low high key h = rw (from_is low key, from_is high key)
    (none_between place_total low high (before key) h)

pub from_max : (p q : Place) (key : Key)
    → is_from_place (ord_max place_cmp p q) key ≡ (is_from_place p key && is_from_place q key)
from_max p q key =
    rw (from_is (ord_max place_cmp p q) key, from_is p key, from_is q key)
    (le_max place_total p q (before key))

pub from_min : (p q : Place) (key : Key)
    → is_from_place (ord_min place_cmp p q) key ≡ (is_from_place p key || is_from_place q key)
from_min p q key =
    rw (from_is (ord_min place_cmp p q) key, from_is p key, from_is q key)
    (le_min place_total p q (before key))

pub both_and : (x y : Bool) → (x && y && true) ≡ (x && y)
both_and x y = grind arith

pub last_of : (x y z : Bool) → (x && y && z) ≡ ((x && z) && y)
last_of x y z = grind arith

pub neither : (x y : Bool) (o : Ordering) → (x && not y && is_lt (ordering_reverse o))
    ≡ (x && not (y || is_le o))
neither x y o = grind arith

-- a range is that of a test where it is that of one which is alike
pub alike : (found between : Key → Bool) → ((key : Key) → found key ≡ between key)
    → (range : Option KeyRange)
    → MatchOption range ((key : Key) → between key ≡ false)
    (λ r. (key : Key) → between key ≡ lies_between r key)
    → MatchOption range ((key : Key) → found key ≡ false)
    (λ r. (key : Key) → found key ≡ lies_between r key)
alike found between same None none = λ key. same key ∙ none key
alike found between same (Some r) is = λ key. same key ∙ is key
