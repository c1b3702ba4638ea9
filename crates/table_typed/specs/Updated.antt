-- What an update of a value does, and why it fails.
--
-- `Makes` is what the function that changes the value may return, and `Gives` what its type of
-- errors makes of an error of the table.
use Rattle.std.specs.Prelude.{◌≡◌, ◌≢◌, ◌⊎◌, Option, Some, None, Result, Ok, Err}
use Rattle.std.specs.BTreeMap.{get}
use Rattle.std.specs.declared.cmp.Ordering.TheVariants.{Equal}
use Rattle.dynamo_value.specs.Fault.{Fault}
use Rattle.dynamo_value.specs.declared.error.Error.{Error}
use Rattle.dynamo_value.specs.declared.item.Item.{Item}
use Rattle.table_keys.specs.KeyOrder.{key_cmp}
use Rattle.table_keys.specs.declared.error.TableError.{TableError}
use Rattle.table_keys.specs.declared.key.Key.{Key}
use Rattle.table_keys.specs.declared.schema.KeySchema.{KeySchema}
use Rattle.table_memory.specs.Content.{items_of, schema_of}
use Rattle.table_memory.specs.declared.table.Table.{Table}
use Rattle.table_typed.specs.Stored.{FailsToPut, Holds, IsKeyOf, IsUnread, IsUnwritten, ReadsAt}
use Rattle.table_typed.specs.declared.error.TypedTableError.{TypedTableError}

-- the value that the change made of the one that was read under the key is held there now
abbrev pub UpdatesValue : {T E : Type 0} → (T → Item → Type 0) → (Item → Result T Fault → Type 0)
    → (T → Result T E → Type 0) → Key → Table → Table → Type 0
UpdatesValue {T} Written Reads Makes key old new =
    (before after : T) × ReadsAt Reads (get key_cmp (items_of old) key) (Ok (Some before))
    × Makes before (Ok after) × Holds Written new key after

-- the error is what the caller's type makes of one of these
abbrev pub PassesOn : {E : Type 0} → (TypedTableError → E → Type 0) → (TypedTableError → Type 0) → E
    → Type 0
PassesOn Gives Fails e = (error : TypedTableError) × Fails error × Gives error e

-- why there is no value to change: nothing is under the key, or reading what is there has an error
abbrev pub FailsToFind : {T : Type 0} → (Item → Result T Fault → Type 0) → Option Item
    → TypedTableError → Type 0
FailsToFind Reads None e = e ≡ TypedTableError.Table TableError.NoItem
FailsToFind Reads (Some item) e = (x : Error) × (e ≡ TypedTableError.Value x)
    × IsUnread Reads item x

-- why the changed value isn't put under the key: it can't be put at all, or its own key is another
abbrev pub FailsToReplace : {T : Type 0} → (T → Item → Type 0) → (T → Fault → Type 0) → Key
    → KeySchema → T → TypedTableError → Type 0
FailsToReplace Written Unwritten key schema value e =
    FailsToPut Written Unwritten schema value e
    ⊎ ((e ≡ TypedTableError.Table TableError.KeyChanged)
    × (own : Key) × IsKeyOf Written schema value own × (key_cmp own key ≢ Equal))

-- Why an update fails where this is under the key: there is no value to change, the change of the
-- one that was read failed with an error of its own, or the changed value isn't put under the key.
abbrev pub FailsAt : {T E : Type 0} → (T → Item → Type 0) → (T → Fault → Type 0)
    → (Item → Result T Fault → Type 0) → (T → Result T E → Type 0) → (TypedTableError → E → Type 0)
    → Key → KeySchema → Option Item → E → Type 0
FailsAt {T} Written Unwritten Reads Makes Gives key schema there e =
    PassesOn Gives (FailsToFind Reads there) e
    ⊎ ((before : T) × ReadsAt Reads there (Ok (Some before))
    × (Makes before (Err e)
    ⊎ ((after : T) × Makes before (Ok after)
    × PassesOn Gives (FailsToReplace Written Unwritten key schema after) e)))

-- the same of what the table has under the key
abbrev pub FailsToUpdate : {T E : Type 0} → (T → Item → Type 0) → (T → Fault → Type 0)
    → (Item → Result T Fault → Type 0) → (T → Result T E → Type 0) → (TypedTableError → E → Type 0)
    → Key → Table → E → Type 0
FailsToUpdate Written Unwritten Reads Makes Gives key table e =
    FailsAt Written Unwritten Reads Makes Gives key (schema_of table) (get key_cmp (items_of table) key) e

-- The item that a change makes of the value that this item reads as.
abbrev pub MakesItem : {T E : Type 0} → (T → Item → Type 0) → (Item → Result T Fault → Type 0)
    → (T → Result T E → Type 0) → Item → Item → Type 0
MakesItem {T} Written Reads Makes item made =
    (before after : T) × Reads item (Ok before) × Makes before (Ok after) × Written after made

-- Why it makes none: reading has an error, the change has one of its own, or writing has one.
abbrev pub MakesNone : {T E : Type 0} → (T → Fault → Type 0) → (Item → Result T Fault → Type 0)
    → (T → Result T E → Type 0) → (Error → E → Type 0) → Item → E → Type 0
MakesNone {T} Unwritten Reads Makes Gives item e =
    ((x : Error) × IsUnread Reads item x × Gives x e)
    ⊎ ((before : T) × Reads item (Ok before)
    × (Makes before (Err e)
    ⊎ ((after : T) × Makes before (Ok after) × (x : Error) × IsUnwritten Unwritten after x × Gives x e)))
