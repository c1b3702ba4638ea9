-- What was put under a key, by the entries alone.
use Rattle.std.proofs.Common.{◌≡◌, ◌∙◌, Bool, true, false, Equal, Some, Ok, refl, ap}
use Rattle.std.specs.BTreeMap.{BTreeMap, Updates, get}
use Rattle.std.specs.Bool.{MatchBool}
use Rattle.std.specs.Prelude.{Option, is_some}
use Rattle.dynamo_value.specs.declared.item.Item.{Item}
use Rattle.table_keys.specs.KeyOrder.{key_cmp}
use Rattle.table_keys.specs.declared.key.Key.{Key}
use Rattle.table_keys.specs.Conditions.{holds}
use Rattle.table_keys.specs.declared.condition.Condition.{Condition}
use Rattle.table_memory.specs.Change.{PutsUnder}
use Rattle.table_memory.specs.Content.{items_of}
use Rattle.table_memory.specs.Places.{IsPut}
use Rattle.table_memory.specs.declared.table.Table.{Table}
use Rattle.table_memory.proofs.Lent.{same_item, under_equal}

-- a map of the same entries was updated alike
pub same_put : (old mid new : BTreeMap Key Item) (key : Key) (item : Item)
    → new.entries ≡ mid.entries
    → Updates key_cmp old mid key (Some item) → IsPut key item old new
same_put old mid new key item is updates = record { updates = rw is updates }

at_true : (b : Bool) {P Q : Type 0} → MatchBool b P Q → (Q → ⊥) → (b ≡ true) × P
at_true true h other = (refl, h)
at_true false h other = absurd (other h)

-- a put that succeeded, seen at a key that is equal
pub went_through : (condition : Condition) (key copy : Key) (item : Item) (old new : Table)
    (before : Option Item) → PutsUnder condition key item old new (Ok before)
    → key_cmp copy key ≡ Equal
    → (holds condition (is_some (get key_cmp (items_of old) copy)) ≡ true)
    × Updates key_cmp (items_of old) (items_of new) copy (Some item)
went_through condition key copy item old new before puts equal =
    let went = at_true (holds condition (is_some (get key_cmp (items_of old) key))) puts
    (λ refused. cc (refused.0)) in (
      ap (λ (there : Option Item). holds condition (is_some there))
          (same_item (items_of old) key copy equal) ∙ went.0,
      under_equal (items_of old) (items_of new) key copy item went.1.1 equal,
    )
