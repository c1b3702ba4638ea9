-- What a slice lends at an index, as a value.
use Rattle.std.proofs.Common.{◌≡◌, ◌∙◌, ℕ, List, Option, None, Some, option_map, slice_get, Bor, sym, ap}
use Rattle.std.proofs.lemmas.Option.{slice_get-get_or, slice_get_past}
use Rattle.std.specs.Slice.{IsItemAt}

pub item_at : {A : Type 0} (xs : List A) (index : ℕ) (r : Option (Bor A)) → IsItemAt xs index r → option_map (λ a. a.now) r ≡ slice_get xs index
item_at xs index None h = sym (slice_get_past xs index h.3)
item_at xs index (Some x) h = ap Some h.1 ∙ sym (slice_get-get_or xs index x.now h.3.0)
