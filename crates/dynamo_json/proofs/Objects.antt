-- An object by the entries of its map: what `insert` leaves is `put`. And an array by its values.
use Rattle.std.proofs.Common.{◌≡◌, List, [], ◌∷◌, String, string_bytes, string_cmp, BTreeMap, Global, Ordering, Less, Equal, Greater, refl, ap, ◌∙◌}
use Rattle.std.specs.BTreeMap.{insert_entry}
use Rattle.dynamo_json.proofs.Common.{put, by_order, match_ordering, items_view, Value, Object}
use Rattle.dynamo_json.proofs.Common.{view-Object, text_cmp}
use Rattle.serde_json.specs.Data as json
use Rattle.serde_json.specs.View.{view, members_view}
use Rattle.dynamo_write.specs.Held.{held_entries}
use Rattle.dynamo_write.specs.Target.{parts_before}
use Rattle.dynamo_json.specs.Plain.{members_of}
use Rattle.dynamo_json.specs.PlainValues.{plain_values}

abbrev Entry : Type 0
Entry = String Global × Value

ordered : (o : Ordering) (a b c : List Entry) → held_entries view (match_ordering o a b c) ≡ by_order o (held_entries view a) (held_entries view b) (held_entries view c)
ordered Less a b c = refl
ordered Equal a b c = refl
ordered Greater a b c = refl

pub inserted : (es : List Entry) (k : String Global) (v : Value) → held_entries view (insert_entry string_cmp es k v) ≡ put text_cmp (string_bytes k) (view v) (held_entries view es)
inserted [] k v = refl
inserted (e ∷ es) k v = ordered (string_cmp k e.0) _ _ _
    ∙ ap (λ rest. by_order (string_cmp k e.0) ((string_bytes k, view v) ∷ held_entries view (e ∷ es)) ((string_bytes e.0, view v) ∷ held_entries view es) ((string_bytes e.0, view e.1) ∷ rest)) (inserted es k v)

members_same : (es : List Entry) → members_view es ≡ members_of (held_entries view es)
members_same [] = refl
members_same (e ∷ es) = ap (json.member (string_bytes e.0) (view e.1)) (members_same es)

pub object_view : (m : BTreeMap (String Global) Value) → view (Object m) ≡ json.object (members_of (held_entries view m.entries))
object_view m = view-Object m ∙ ap json.object (members_same m.entries)

pub before_nothing : (vs : List Value) → parts_before plain_values vs json.no_items ≡ items_view vs
before_nothing [] = refl
before_nothing (v ∷ vs) = ap (json.item (view v)) (before_nothing vs)
