-- A JSON value of a program without floats: its numbers are of 64 bits, and the names of its objects are in order.
use Rattle.std.proofs.Common.{◌≡◌, ◌&&◌, Bool, true, false, List, [], ◌∷◌, String, Global, string_bytes, string_cmp, Less, sym, ap, subst}
use Rattle.dynamo_json.proofs.Common.{is_sorted, below_all, AllByRecursion, keys_of, is_lt, T}
use Rattle.dynamo_json.proofs.Common.{items_have_float, members_have_float, Value, text_cmp}
use Rattle.dynamo_json.proofs.Common.{entries, AreJson, MembersAreJson}
use Rattle.std.specs.List.Sorted.{IsStrictlySortedBy}
use Rattle.serde_json.specs.View as sj
use Rattle.serde_json.proofs.Views.{Entry}

-- ---- names in order

both : (a b : Bool) → T a → T b → T (a && b)
both true b h g = g
both false b h g = absurd h

below : (k : String Global) (es : List Entry) → AllByRecursion (λ y. string_cmp k y ≡ Less) (keys_of es) → T (below_all text_cmp (string_bytes k) (entries (sj.members_view es)))
below k [] h = tt
below k (e ∷ es) h = both _ _ (subst T (sym (ap is_lt h.0)) tt) (below k es h.1)

-- names in strictly ascending order, as the object of a program has them
pub names_in_order : (es : List Entry) → IsStrictlySortedBy string_cmp (keys_of es) → T (is_sorted text_cmp (entries (sj.members_view es)))
unfolding IsStrictlySortedBy
names_in_order [] h = tt
names_in_order (e ∷ es) h = both _ _ (below e.0 es h.0) (names_in_order es h.1)

-- ---- what holds of all where it holds of those that are left

pub record Left (vs rest : List Value) : Type 0 where
  pub floats : items_have_float (sj.items_view vs) ≡ items_have_float (sj.items_view rest)
  pub json : AreJson (sj.items_view rest) → AreJson (sj.items_view vs)

pub record LeftOf (es rest : List Entry) : Type 0 where
  pub floats : members_have_float (sj.members_view es) ≡ members_have_float (sj.members_view rest)
  pub json : MembersAreJson (sj.members_view rest) → MembersAreJson (sj.members_view es)
