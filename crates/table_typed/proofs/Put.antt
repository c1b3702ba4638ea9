-- What a table has under other keys after an item was put.
use Rattle.std.proofs.Common.{◌≡◌, ◌≢◌, Ordering, Less, Equal, Greater, false, refl}
use Rattle.std.specs.Ordering.{is_eq}

pub not_equal : (o : Ordering) → o ≢ Equal → is_eq o ≡ false
not_equal Less h = refl
not_equal Equal h = absurd (h refl)
not_equal Greater h = refl
