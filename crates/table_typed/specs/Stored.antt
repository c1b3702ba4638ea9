-- What a table of one type holds: the items of its values, under their keys.
--
-- `Written`, `Unwritten` and `Reads` are what the type says of itself: which items a value may be
-- written as, which faults that may have, and what an item may read as.
use Rattle.std.specs.Prelude.{◌≡◌, ◌≢◌, ◌⊎◌, ⊤, ℕ, Bool, List, [], ◌∷◌, take}
use Rattle.std.specs.Prelude.{Option, Some, None, is_some, Result, Ok, Err}
use Rattle.std.specs.BTreeMap.{get, Updates}
use Rattle.std.specs.Bool.{MatchBool}
use Rattle.std.specs.Borrow.{Bor}
use Rattle.std.specs.declared.cmp.Ordering.TheVariants.{Equal}
use Rattle.dynamo_value.specs.Fault.{Fault, out_of_memory}
use Rattle.dynamo_value.specs.Kind.{fault_of}
use Rattle.dynamo_value.specs.declared.error.Error.{Error}
use Rattle.dynamo_value.specs.declared.item.Item.{Item}
use Rattle.table_keys.specs.KeyOf.{ReadsKey}
use Rattle.table_keys.specs.KeyOrder.{key_cmp}
use Rattle.table_keys.specs.declared.error.TableError.{TableError}
use Rattle.table_keys.specs.declared.key.Key.{Key}
use Rattle.table_keys.specs.declared.schema.KeySchema.{KeySchema}
use Rattle.table_keys.specs.Conditions.{holds}
use Rattle.table_keys.specs.Queries.{rest}
use Rattle.table_keys.specs.declared.condition.Condition.{Condition}
use Rattle.table_memory.specs.Change as items
use Rattle.table_memory.specs.Change.{Refuses}
use Rattle.table_memory.specs.Content.{entries_of, items_of}
use Rattle.table_memory.specs.declared.table.Table.{Table}
use Rattle.table_typed.specs.declared.error.TypedTableError.{TypedTableError}
use Rattle.table_typed.specs.declared.table.TypedTable.{TypedTable}

abbrev pub table_of : {T : Type 0} → TypedTable T → Table
table_of t = t.table

-- the table has the value's item under the key
abbrev pub Holds : {T : Type 0} → (T → Item → Type 0) → Table → Key → T → Type 0
Holds Written table key value =
    (item : Item) × (get key_cmp (items_of table) key ≡ Some item) × Written value item

-- reading the item has this error
abbrev pub IsUnread : {T : Type 0} → (Item → Result T Fault → Type 0) → Item → Error → Type 0
IsUnread Reads item e = (fault_of e ≡ out_of_memory) ⊎ Reads item (Err (fault_of e))

-- what is read of the item under a key, where there is one
abbrev pub ReadsAt : {T : Type 0} → (Item → Result T Fault → Type 0) → Option Item
    → Result (Option T) Error → Type 0
ReadsAt Reads None r = r ≡ Ok None
ReadsAt Reads (Some item) (Ok None) = ⊥
ReadsAt Reads (Some item) (Ok (Some value)) = Reads item (Ok value)
ReadsAt Reads (Some item) (Err e) = IsUnread Reads item e

-- writing the value has this error
abbrev pub IsUnwritten : {T : Type 0} → (T → Fault → Type 0) → T → Error → Type 0
IsUnwritten Unwritten value e = Unwritten value (fault_of e) ⊎ (fault_of e ≡ out_of_memory)

-- Why a value isn't put: writing it as an item has this error, its item has this error in place of
-- a key, or memory is wanting.
abbrev pub FailsToPut : {T : Type 0} → (T → Item → Type 0) → (T → Fault → Type 0) → KeySchema → T
    → TypedTableError → Type 0
FailsToPut Written Unwritten schema value (TypedTableError.Value e) = IsUnwritten Unwritten value e
FailsToPut Written Unwritten schema value (TypedTableError.Table e) =
    ((item : Item) × Written value item × ReadsKey schema item (Err e)) ⊎ (e ≡ TableError.OutOfMemory)

-- the item of the value doesn't read, by this error
abbrev pub FailsToReread : {T : Type 0} → (T → Item → Type 0) → (Item → Result T Fault → Type 0) → T
    → TypedTableError → Type 0
FailsToReread Written Reads value (TypedTableError.Value e) =
    (item : Item) × Written value item × IsUnread Reads item e
FailsToReread Written Reads value (TypedTableError.Table e) = ⊥

-- the items read as these values, each in its place
abbrev pub ReadEach : {T : Type 0} → (Item → Result T Fault → Type 0) → List (Key × Item) → List T
    → Type 0
ReadEach Reads [] [] = ⊤
ReadEach Reads (e ∷ es) (value ∷ values) = Reads e.1 (Ok value) × ReadEach Reads es values
ReadEach Reads [] (value ∷ values) = ⊥
ReadEach Reads (e ∷ es) [] = ⊥

-- an item is refused by this fault, and all items before it read
abbrev pub RefusesFirst : {T : Type 0} → (Item → Result T Fault → Type 0) → Fault
    → List (Key × Item) → Type 0
RefusesFirst {T} Reads fault [] = ⊥
RefusesFirst {T} Reads fault (e ∷ es) =
    Reads e.1 (Err fault) ⊎ ((value : T) × Reads e.1 (Ok value) × RefusesFirst Reads fault es)

-- why a call that reads these items fails: memory ran out, or one of them is refused and all before
-- it read
abbrev pub FailsToRead : {T : Type 0} → (Item → Result T Fault → Type 0) → List (Key × Item)
    → Error → Type 0
FailsToRead Reads entries e = (fault_of e ≡ out_of_memory) ⊎ RefusesFirst Reads (fault_of e) entries

-- a page of a scan: the items after a key, up to a limit
abbrev pub page : ℕ → Option (Bor Key) → Table → List (Key × Item)
page limit start table = take limit (rest start (entries_of table))

-- every key but this one has in the new table what it had in the old
abbrev pub OthersStay : Key → Table → Table → Type 0
OthersStay key old new =
    (other : Key) → key_cmp key other ≢ Equal
    → get key_cmp (items_of new) other ≡ get key_cmp (items_of old) other

-- the key is that of the item that the value is written as
abbrev pub IsKeyOf : {T : Type 0} → (T → Item → Type 0) → KeySchema → T → Key → Type 0
IsKeyOf Written schema value key =
    (item : Item) × Written value item × ReadsKey schema item (Ok key)

-- the error says that the condition fails, and it doesn't hold of what is under the value's key
abbrev pub FailsCondition : {T : Type 0} → (T → Item → Type 0) → Condition → Table → T
    → TypedTableError → Type 0
FailsCondition Written condition table value e =
    (e ≡ TypedTableError.Table TableError.ConditionFailed)
    × (item : Item) × Written value item × items.FailsCondition condition item table

-- Nothing is under the key from now on, where the condition holds there. The result says whether
-- there was anything.
abbrev pub DeletesIf : Condition → Key → Table → Table → Result Bool TableError → Type 0
DeletesIf condition key old new r =
    let there = is_some (get key_cmp (items_of old) key) in
    MatchBool (holds condition there)
    ((r ≡ Ok there) × Updates key_cmp (items_of old) (items_of new) key None)
    (Refuses TableError.ConditionFailed old new r)
