-- What the keys of a table in a database are, and which items it refuses.
use Rattle.std.specs.Prelude.{◌≡◌, ◌⊎◌, ⊤, false, Result, Ok, Err, Option, IfSome, MatchResult}
use Rattle.std.specs.Ordering.{is_ne}
use Rattle.sqlite.specs.declared.connection.Connection.{Connection}
use Rattle.dynamo_value.specs.declared.item.Item.{Item}
use Rattle.table_keys.specs.KeyOf.{ReadsKey}
use Rattle.table_keys.specs.KeyOrder.{key_cmp}
use Rattle.table_keys.specs.declared.error.TableError.{TableError}
use Rattle.table_keys.specs.declared.key.Key.{Key}
use Rattle.table_keys.specs.declared.schema.KeySchema.{KeySchema}
use Rattle.table_store.specs.Errors.{of_table}
use Rattle.table_store.specs.declared.error.StoreError.{StoreError}
use Rattle.table_store.specs.declared.rows.definition.Definition.{Definition}
use Rattle.table_store.specs.declared.store.TableStore.{TableStore}

-- the number of the table and the attributes of its keys
abbrev pub table_of : {S : Type 0} → TableStore S → Definition
table_of store = store.table

abbrev pub schema_of : {S : Type 0} → TableStore S → KeySchema
schema_of store = store.table.schema

-- the database that the table is in
abbrev pub connection_of : {S : Type 0} → TableStore S → Connection S
connection_of store = store.conn

-- an item without a key of the table is refused by the first error of its key
abbrev pub NeedsKey : {A : Type 0} → KeySchema → Item → Result A StoreError → Type 0
NeedsKey schema item r =
    (key : Result Key TableError) × ReadsKey schema item key × MatchResult key (λ _. ⊤) (λ error. r ≡ Err (of_table error))

-- the item has a key of the table
abbrev pub HasKey : KeySchema → Item → Type 0
HasKey schema item = (key : Key) × ReadsKey schema item (Ok key)

-- the item has this key
abbrev pub HasThisKey : KeySchema → Key → Item → Type 0
HasThisKey schema key item =
    (own : Key) × ReadsKey schema item (Ok own) × (is_ne (key_cmp own key) ≡ false)

-- what is found under a key has this key
abbrev pub FoundHasKey : KeySchema → Key → Option Item → Type 0
FoundHasKey schema key found = IfSome found (HasThisKey schema key)

-- what was there has the key of the item that is put
abbrev pub HadKeyOf : KeySchema → Item → Option Item → Type 0
HadKeyOf schema item before =
    (key : Key) × ReadsKey schema item (Ok key) × FoundHasKey schema key before

-- what a change makes of an item that has this key
abbrev pub OfKey : {E : Type 0} → (Item → Result Item E → Type 0) → KeySchema → Key
    → Item → Result Item E → Type 0
OfKey Makes schema key before made = HasThisKey schema key before × Makes before made

-- a change makes an item that has this key
abbrev pub KeepsKey : {E : Type 0} → (Item → Result Item E → Type 0) → KeySchema → Key → Type 0
KeepsKey Makes schema key = (before after : Item) × Makes before (Ok after)
    × HasThisKey schema key after

-- An error of a change is the change's own, or is made of one of the table.
abbrev pub FailsToChange : {E : Type 0} → (StoreError → E → Type 0)
    → (Item → Result Item E → Type 0) → E → Type 0
FailsToChange gives Makes e =
    ((before : Item) × Makes before (Err e)) ⊎ ((error : StoreError) × gives error e)
