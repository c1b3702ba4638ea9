-- The members of the attribute value of a value of a program are in order.
use Rattle.std.proofs.Common.{◌≡◌, ℕ, List, [], ◌∷◌, Less, Equal, Greater, refl, sym, ap, subst}
use Rattle.dynamo_json.proofs.Common.{T, put, by_order, is_sorted, AllByRecursion, Av, members_of}
use Rattle.dynamo_json.proofs.Common.{text_cmp, view_step, view, elements_view, entries_view}
use Rattle.dynamo_json.proofs.Common.{members_view, AttributeValue, Entry, view_sorted}
use Rattle.dynamo_json.proofs.Common.{ViewsInOrder, ItemViewsInOrder}
use Rattle.dynamo_value.specs.Av as av
use Rattle.dynamo_value.specs.Item.{map_of}
use Rattle.dynamo_value.specs.declared.attribute_value.AttributeValue.TheOpen.{AttributeValue-F}
use Rattle.dynamo_value.specs.declared.attribute_value.AttributeValue.TheFolds.{map-AttributeValue, fold-roll-AttributeValue}
use Rattle.dynamo_value.specs.declared.attribute_value.AttributeValue.TheViews.{roll-AttributeValue}
use Rattle.dynamo_json.specs.KeyOrder.{entries, InOrder, ElementsInOrder, EachInOrder}
use Rattle.dynamo_json.proofs.EveryValue.{Layer, Inside, every_value, every_entry}

entries_again : (es : List (List ℕ × Av)) → entries (members_of es) ≡ es
entries_again [] = refl
entries_again (e ∷ es) = ap (λ rest. e ∷ rest) (entries_again es)

put_in_order : (k : List ℕ) (a : Av) (ms : List (List ℕ × Av)) → InOrder a → EachInOrder (members_of ms) → EachInOrder (members_of (put text_cmp k a ms))
put_in_order k a [] h all = (h, tt)
put_in_order k a (m ∷ ms) h all = elim (text_cmp k m.0) as (λ o. EachInOrder (members_of (by_order o ((k, a) ∷ m ∷ ms) ((m.0, a) ∷ ms) (m ∷ put text_cmp k a ms)))) [
  | Less ↦ (h, all)
  | Equal ↦ (h, all.1)
  | Greater ↦ (all.0, put_in_order k a ms h all.1)
]

abbrev Good : AttributeValue → Type 0
Good v = InOrder (view v)

each_in_order : (es : List Entry) → AllByRecursion (λ e. Good e.1) es → EachInOrder (members_view es)
each_in_order [] h = tt
each_in_order (e ∷ es) h = put_in_order _ (view e.1) (entries_view es) h.0 (each_in_order es h.1)

map_in_order : (es : List Entry) → AllByRecursion (λ e. Good e.1) es → InOrder (av.M (members_view es))
map_in_order es h = (subst (λ ms. T (is_sorted text_cmp ms)) (sym (entries_again (entries_view es))) (view_sorted es), each_in_order es h)

elements_in_order : (vs : List AttributeValue) → AllByRecursion Good vs → ElementsInOrder (elements_view vs)
elements_in_order [] h = tt
elements_in_order (v ∷ vs) h = (h.0, elements_in_order vs h.1)

layer_in_order : (x : Layer) → Inside Good x → InOrder (view_step (map-AttributeValue AttributeValue Av view x))
layer_in_order (AttributeValue-F.M m) h = map_in_order m.entries h
layer_in_order (AttributeValue-F.L values) h = elements_in_order values.items h
layer_in_order _ h = tt

roll_in_order : (x : Layer) → Inside Good x → Good (roll-AttributeValue x)
roll_in_order x h = subst InOrder (sym (fold-roll-AttributeValue Av view_step x)) (layer_in_order x h)

pub views_in_order : ViewsInOrder
views_in_order = every_value Good roll_in_order

pub item_views_in_order : ItemViewsInOrder
item_views_in_order item = let es = (map_of item).entries in map_in_order es (every_entry Good roll_in_order es)
