-- The JSON value of a list and of a map, by those of what they hold.
use Rattle.std.proofs.Common.{◌≡◌, ℕ, List, [], ◌∷◌, ◌++◌, map, refl, sym, ap, ◌∙◌, subst, Ordering, Less, Equal, Greater, String, string_bytes}
use Rattle.dynamo_json.proofs.Common.{put, by_order, AllByRecursion, IsDistinct, keys_of, string_eq}
use Rattle.dynamo_json.proofs.Common.{string_cmp, match_ordering, Value, Av, elements_of}
use Rattle.dynamo_json.proofs.Common.{members_of, HasBytes, ElementsHaveBytes, MembersHaveBytes}
use Rattle.dynamo_json.proofs.Common.{text_cmp, view, entries_view, members_view, Entry}
use Rattle.dynamo_json.proofs.Common.{entries-push, apart, json_of, elements_json, members_json}
use Rattle.serde_json.specs.Data as json
use Rattle.serde_json.specs.View as sj
use Rattle.std.specs.BTreeMap.{insert_entry}
use Rattle.std.specs.declared.alloc.Global.{Global}
use Rattle.serde_json.proofs.Views as sj_views

pub elements_json-elements_of : (as' : List Av) → elements_json (elements_of as') ≡ sj.items_of (map json_of as')
elements_json-elements_of [] = refl
elements_json-elements_of (a ∷ as') = ap (json.item (json_of a)) (elements_json-elements_of as')

by_order-match_ordering : (o : Ordering) (a b c : List (List ℕ × Av)) → members_json (members_of (by_order o a b c)) ≡ match_ordering o (members_json (members_of a)) (members_json (members_of b)) (members_json (members_of c))
by_order-match_ordering Less a b c = refl
by_order-match_ordering Equal a b c = refl
by_order-match_ordering Greater a b c = refl

-- a member is put in its place
pub members_json-put : (k : List ℕ) (a : Av) (es : List (List ℕ × Av)) → members_json (members_of (put text_cmp k a es)) ≡ json.put k (json_of a) (members_json (members_of es))
members_json-put k a [] = refl
members_json-put k a (e ∷ es) = by_order-match_ordering (text_cmp k e.0) _ _ _ ∙ rw (members_json-put k a es)

-- the entry after es is written and inserted in an object that holds what es stand for
pub written : (old new : List (String Global × Value)) (es rest : List Entry) (e : Entry) (k : String Global) (v : Value)
    → IsDistinct string_eq (keys_of (es ++ e ∷ rest)) → sj.members_view old ≡ members_json (members_view es) → new ≡ insert_entry string_cmp old k v
    → string_bytes k ≡ string_bytes e.0 → sj.view v ≡ json_of (view e.1) → sj.members_view new ≡ members_json (members_view (es ++ e ∷ []))
written old new es rest e k v distinct so_far inserted key value =
    ap sj.members_view inserted ∙ sj_views.members_view-insert_entry old k v
    ∙ (λ i. json.put (key i) (value i) (so_far i))
    ∙ sym (members_json-put (string_bytes e.0) (view e.1) (entries_view es))
    ∙ sym (ap (λ ds. members_json (members_of ds)) (entries-push es e (apart es e rest distinct)))

-- ---- the byte strings of what was written hold bytes

pub elements_have_bytes : (as' : List Av) → AllByRecursion HasBytes as' → ElementsHaveBytes (elements_of as')
elements_have_bytes [] h = tt
elements_have_bytes (a ∷ as') h = (h.0, elements_have_bytes as' h.1)

by_order_have_bytes : (o : Ordering) (a b c : List (List ℕ × Av)) → MembersHaveBytes (members_of a) → MembersHaveBytes (members_of b) → MembersHaveBytes (members_of c)
    → MembersHaveBytes (members_of (by_order o a b c))
by_order_have_bytes Less a b c h k l = h
by_order_have_bytes Equal a b c h k l = k
by_order_have_bytes Greater a b c h k l = l

pub put_has_bytes : (k : List ℕ) (a : Av) (es : List (List ℕ × Av)) → HasBytes a → MembersHaveBytes (members_of es) → MembersHaveBytes (members_of (put text_cmp k a es))
put_has_bytes k a [] h all = (h, tt)
put_has_bytes k a (e ∷ es) h all = by_order_have_bytes (text_cmp k e.0) _ _ _ (h, all) (h, all.1) (all.0, put_has_bytes k a es h all.1)

-- the entry after es has bytes too
pub written_bytes : (es rest : List Entry) (e : Entry) → IsDistinct string_eq (keys_of (es ++ e ∷ rest)) → MembersHaveBytes (members_view es) → HasBytes (view e.1)
    → MembersHaveBytes (members_view (es ++ e ∷ []))
written_bytes es rest e distinct all here =
    subst (λ ds. MembersHaveBytes (members_of ds)) (sym (entries-push es e (apart es e rest distinct))) (put_has_bytes (string_bytes e.0) (view e.1) (entries_view es) here all)
