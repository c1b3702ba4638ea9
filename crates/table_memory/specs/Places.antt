-- What putting an item under a key leaves in a map of items.
use Rattle.std.specs.Prelude.{◌≡◌, Some}
use Rattle.std.specs.BTreeMap.{BTreeMap, get, keys, IsOrdered, Updates}
use Rattle.dynamo_value.specs.declared.item.Item.{Item}
use Rattle.table_keys.specs.KeyOrder.{key_cmp}
use Rattle.table_keys.specs.declared.key.Key.{Key}

-- the item took the place of another under the key
pub record TakesPlace (key : Key) (item before : Item) (old new : BTreeMap Key Item) : Type 0 where
  pub was_there : get key_cmp old key ≡ Some before
  pub updates : Updates key_cmp old new key (Some item)
  pub keys_stay : keys new ≡ keys old
  pub is_ordered : IsOrdered key_cmp new

-- the items are as they were
pub record Stays (old new : BTreeMap Key Item) : Type 0 where
  pub entries_stay : new.entries ≡ old.entries
  pub is_ordered : IsOrdered key_cmp new

-- the item was put under the key
pub record IsPut (key : Key) (item : Item) (old new : BTreeMap Key Item) : Type 0 where
  pub updates : Updates key_cmp old new key (Some item)
