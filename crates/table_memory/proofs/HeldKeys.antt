-- The keys of a table stay held through its changes.
use Rattle.std.proofs.Common.{◌≡◌, Bool, Result, Ok, Err, OnOk, OnErr, ap}
use Rattle.std.proofs.lemmas.List.Elements.{All-same}
use Rattle.std.proofs.lemmas.Map.Views.{All-keys-insert_entry, All-map-remove_entry}
use Rattle.std.proofs.Math.Logic.{∥∥₁_map}
use Rattle.std.specs.BTreeMap.{BTreeMap, IsUnchanged, insert_entry, keys}
use Rattle.std.specs.List.{All}
use Rattle.std.specs.Map.{keys_of, remove_entry}
use Rattle.dynamo_value.specs.declared.item.Item.{Item}
use Rattle.table_keys.specs.Held.{IsHeldKey}
use Rattle.table_keys.specs.KeyOrder.{key_cmp}
use Rattle.table_keys.specs.declared.key.Key.{Key}

abbrev pub AreHeld : BTreeMap Key Item → Type 0
AreHeld items = ∥ All IsHeldKey (keys items) ∥₁

-- after an item was put under a key
pub inserted : (old new : BTreeMap Key Item) (key : Key) (item : Item)
    → new.entries ≡ insert_entry key_cmp old.entries key item
    → IsHeldKey key → AreHeld old → AreHeld new
inserted old new key item is held all =
    ∥∥₁_map all (λ h. All-same IsHeldKey _ _ (ap keys_of is)
    (All-keys-insert_entry key_cmp key item IsHeldKey old.entries h held))

-- after one was taken out
pub removed : (old new : BTreeMap Key Item) (test : Key → Bool)
    → new.entries ≡ remove_entry test old.entries
    → AreHeld old → AreHeld new
removed old new test is all =
    ∥∥₁_map all (λ h. All-same IsHeldKey _ _ (ap keys_of is)
    (All-map-remove_entry test (λ e. e.0) IsHeldKey old.entries h))

-- where the keys stay
pub kept : (old new : BTreeMap Key Item) → keys new ≡ keys old → AreHeld old → AreHeld new
kept old new is all = ∥∥₁_map all (λ h. All-same IsHeldKey _ _ is h)

-- after an item was put under a key, or memory ran out
pub after_insert : (old new : BTreeMap Key Item) (key : Key) (item : Item) {A E : Type 0}
    (r : Result A E)
    → OnOk r (new.entries ≡ insert_entry key_cmp old.entries key item)
    → OnErr r (IsUnchanged old new)
    → IsHeldKey key → AreHeld old → AreHeld new
after_insert old new key item (Ok a) is err held all = inserted old new key item is held all
after_insert old new key item (Err e) is err held all = kept old new (ap keys_of err) all
