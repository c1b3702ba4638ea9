-- What a table in a database has of the values of one type.
--
-- `Written`, `Unwritten` and `Reads` are what the type says of itself: which items a value may be
-- written as, which faults that may have, and what an item may read as.
use Rattle.std.specs.Prelude.{◌≡◌, ◌⊎◌, ◌≤◌, ⊤, false, ℕ, List, Option, Result, Ok, Err, All}
use Rattle.std.specs.Prelude.{length, option_map, MatchResult}
use Rattle.std.specs.Borrow.{Bor}
use Rattle.std.specs.List.{AllZip}
use Rattle.std.specs.Ordering.{is_ne}
use Rattle.dynamo_value.specs.Fault.{Fault}
use Rattle.dynamo_value.specs.declared.item.Item.{Item}
use Rattle.table_keys.specs.KeyOf.{ReadsKey, SaysKey}
use Rattle.table_keys.specs.KeyOrder.{key_cmp}
use Rattle.table_keys.specs.declared.error.TableError.{TableError}
use Rattle.table_keys.specs.declared.key.Key.{Key}
use Rattle.table_keys.specs.declared.schema.KeySchema.{KeySchema}
use Rattle.table_keys.specs.declared.query.Query.{Query}
use Rattle.table_store.specs.Errors.{of_table}
use Rattle.table_store.specs.Content as store
use Rattle.table_store.specs.Found.{IsFound}
use Rattle.table_store.specs.Order.{AreBehind}
use Rattle.table_store.specs.declared.rows.definition.Definition.{Definition}
use Rattle.table_store.specs.declared.store.TableStore.{TableStore}
use Rattle.table_typed.specs.Stored.{IsKeyOf, IsUnwritten}
use Rattle.table_typed_store.specs.declared.error.TypedStoreError.{TypedStoreError}
use Rattle.table_typed_store.specs.declared.store.TypedStore.{TypedStore}

-- the table of the items, its number and what its keys are
abbrev pub store_of : {T S : Type 0} → TypedStore T S → TableStore S
store_of t = t.store

abbrev pub table_of : {T S : Type 0} → TypedStore T S → Definition
table_of t = store.table_of (store_of t)

abbrev pub schema_of : {T S : Type 0} → TypedStore T S → KeySchema
schema_of t = store.schema_of (store_of t)

-- the value is what this item reads as
abbrev pub ReadsAs : {T : Type 0} → (Item → Result T Fault → Type 0) → Item → T → Type 0
ReadsAs Reads item value = Reads item (Ok value)

-- the value is what an item reads as
abbrev pub WasRead : {T : Type 0} → (Item → Result T Fault → Type 0) → T → Type 0
WasRead Reads value = (item : Item) × ReadsAs Reads item value

-- the value is what an item of this key reads as
abbrev pub WasReadAt : {T : Type 0} → (Item → Result T Fault → Type 0) → KeySchema → Key → T
    → Type 0
WasReadAt Reads schema key value =
    (item : Item) × store.HasThisKey schema key item × ReadsAs Reads item value

-- each value is what an item reads as
abbrev pub WereRead : {T : Type 0} → (Item → Result T Fault → Type 0) → List T → Type 0
WereRead Reads values = (items : List Item) × AllZip (ReadsAs Reads) items values

-- each value is what an item reads as that the query finds, and they are no more than its limit
abbrev pub WereFound : {T : Type 0} → (Item → Result T Fault → Type 0) → KeySchema → Query → List T
    → Type 0
WereFound Reads schema query values =
    (items : List Item) × All (IsFound schema query) items × (length items ≤ query.limit)
    × AllZip (ReadsAs Reads) items values

-- each value is what an item reads as whose key comes after that of the one before it, the first
-- after the start, and they are no more than the limit
abbrev pub WereScanned : {T : Type 0} → (Item → Result T Fault → Type 0) → KeySchema → ℕ
    → Option Key → List T → Type 0
WereScanned Reads schema limit before values =
    (items : List Item) × AreBehind schema before items × (length items ≤ limit)
    × AllZip (ReadsAs Reads) items values

-- the error of an item without a key
abbrev pub of_key : TableError → TypedStoreError
of_key error = TypedStoreError.Store (of_table error)

-- why a value has no key: it isn't written as an item, or its item has no key of the table
abbrev pub FailsToKey : {T : Type 0} → (T → Item → Type 0) → (T → Fault → Type 0) → KeySchema → T
    → TypedStoreError → Type 0
FailsToKey Written Unwritten schema value (TypedStoreError.Value e) = IsUnwritten Unwritten value e
FailsToKey Written Unwritten schema value (TypedStoreError.Store e) =
    (item : Item) × Written value item
    × (error : TableError) × ReadsKey schema item (Err error) × (e ≡ of_table error)

-- a value whose item has no key of the table is refused by the first error of its key
abbrev pub RefusesKeyless : {T A : Type 0} → (T → Item → Type 0) → KeySchema → T
    → Result A TypedStoreError → Type 0
RefusesKeyless Written schema value r =
    (item : Item) × Written value item
    × (key : Result Key TableError) × ReadsKey schema item key
    × MatchResult key (λ _. ⊤) (λ error. r ≡ Err (of_key error))

-- A value that isn't written as an item is refused by that fault, and one whose item has no key of
-- the table by the first error of its key.
abbrev pub NeedsKey : {T A : Type 0} → (T → Item → Type 0) → (T → Fault → Type 0) → KeySchema → T
    → Result A TypedStoreError → Type 0
NeedsKey Written Unwritten schema value (Err (TypedStoreError.Value e)) = IsUnwritten Unwritten
    value e
NeedsKey Written Unwritten schema value r = RefusesKeyless Written schema value r

-- the key that words say, or the error of the first
abbrev pub SaysKeyOf : KeySchema → List ℕ → Option (Bor (List ℕ)) → Result Key TypedStoreError
    → Type 0
SaysKeyOf schema partition sort r =
    (key : Result Key TableError) × SaysKey schema partition (option_map (λ w. w.now) sort) key
    × MatchResult key (λ k. r ≡ Ok k) (λ error. r ≡ Err (of_key error))

-- the change makes a value of one that was read, and the new one has this key
abbrev pub KeepsKey : {T E : Type 0} → (T → Item → Type 0) → (Item → Result T Fault → Type 0)
    → (T → Result T E → Type 0) → KeySchema → Key → Type 0
KeepsKey {T} Written Reads Makes schema key =
    (before after : T) × WasRead Reads before × Makes before (Ok after)
    × (own : Key) × IsKeyOf Written schema after own × (is_ne (key_cmp own key) ≡ false)

-- why an update fails: the change of a value that was read failed with an error of its own, or the
-- error is what the caller's type makes of one of the table's
abbrev pub FailsToChange : {T E : Type 0} → (Item → Result T Fault → Type 0)
    → (T → Result T E → Type 0) → (TypedStoreError → E → Type 0) → E → Type 0
FailsToChange {T} Reads Makes Gives e =
    ((before : T) × WasRead Reads before × Makes before (Err e))
    ⊎ ((error : TypedStoreError) × Gives error e)
