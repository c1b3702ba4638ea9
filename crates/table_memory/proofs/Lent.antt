-- What a map has after the item under a key was lent.
use Rattle.std.proofs.Common.{◌≡◌, ◌∙◌, false, Some, None, Ordering, Equal, refl, sym, ap, subst}
use Rattle.std.proofs.Common.{arith}
use Rattle.std.proofs.lemmas.Map.Steps.{set_value_same}
use Rattle.std.specs.BTreeMap.{BTreeMap, Updates, UpdatesBy, WritesThrough, get, get_by, is_at}
use Rattle.std.specs.Map.{KeepsOthers}
use Rattle.std.specs.Ordering.{is_ne}
use Rattle.std.specs.Prelude.{is_some}
use Rattle.dynamo_value.specs.declared.item.Item.{Item}
use Rattle.table_keys.specs.KeyLaws.{key_total}
use Rattle.table_keys.specs.KeyOrder.{key_cmp}
use Rattle.table_keys.specs.declared.key.Key.{Key}

-- equal keys compare alike
alike : (key other : Key) → key_cmp key other ≡ Equal → key_cmp key ≡ key_cmp other
alike key other equal = λ i k. key_total.congr key other k equal i

-- an item that is under a key is under each key that is equal
pub under_equal : (old new : BTreeMap Key Item) (key other : Key) (item : Item)
    → Updates key_cmp old new key (Some item) → key_cmp other key ≡ Equal
    → Updates key_cmp old new other (Some item)
under_equal old new key other item updates equal =
    subst (λ (compare : Key → Ordering). UpdatesBy key_cmp compare old new (Some item))
    (sym (alike other key equal)) updates

-- equal keys have the same item
pub same_item : (old : BTreeMap Key Item) (key other : Key) → key_cmp other key ≡ Equal
    → get key_cmp old other ≡ get key_cmp old key
same_item old key other equal =
    ap (λ (compare : Key → Ordering). get_by compare old) (alike other key equal)

same_key : (o : Ordering) → false ≡ is_ne o → o ≡ Equal
same_key o e = grind arith

-- the item under a key is lent, and ends as one that is written
module _ (old : BTreeMap Key Item) (key : Key) (item : Item) (new : Item → BTreeMap Key Item)
    (ends : (other : Item) → WritesThrough key_cmp (key_cmp key) old other (new other))
    (there : Some item ≡ get key_cmp old key) where
  -- an item that wasn't written stays
  pub stays : (new item).entries ≡ old.entries
  stays = (ends item).0 ∙ set_value_same (is_at (key_cmp key)) old.entries item (sym there)

  -- one that was takes its place
  pub in_place : (own : Key) (other : Item) → false ≡ is_ne (key_cmp own key)
      → Updates key_cmp old (new other) own (Some other)
  in_place own other same =
      under_equal old (new other) key own other ((ends other).3 (ap is_some (sym there)))
      (same_key (key_cmp own key) same)

-- taking out what isn't there changes nothing
pub none_taken : (old new : BTreeMap Key Item) (key : Key) → new ≡ old
    → get key_cmp old key ≡ None → Updates key_cmp old new key None
unfolding KeepsOthers
none_taken old new key is none = rw is (
  λ other. grind (arith, same_item old other key),
  none,
  λ other apart. refl,
  λ other one apart. refl,
)
