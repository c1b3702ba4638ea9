-- What a change of a table answers, and what it leaves.
use Rattle.std.specs.Prelude.{◌≡◌, ◌⊎◌, true, false, Option, Some, None, Result, Ok, Err, MatchResult, MatchOption, IsErrAnd, IsOkAnd, is_some}
use Rattle.std.specs.BTreeMap.{BTreeMap, get, Updates}
use Rattle.std.specs.Bool.{MatchBool}
use Rattle.std.specs.Ordering.{is_ne}
use Rattle.dynamo_value.specs.declared.item.Item.{Item}
use Rattle.table_memory.specs.Content.{items_of, entries_of, schema_of}
use Rattle.table_keys.specs.KeyOf.{ReadsKey}
use Rattle.table_keys.specs.KeyOrder.{key_cmp}
use Rattle.table_keys.specs.declared.error.TableError.{TableError}
use Rattle.table_keys.specs.declared.key.Key.{Key}
use Rattle.table_keys.specs.declared.schema.KeySchema.{KeySchema}
use Rattle.table_keys.specs.Conditions.{holds}
use Rattle.table_keys.specs.declared.condition.Condition.{Condition}
use Rattle.table_memory.specs.declared.table.Table.{Table}

-- the call is refused by this error, and the table has the items that it had
abbrev pub Refuses : {A : Type 0} → TableError → Table → Table → Result A TableError → Type 0
Refuses error old new r = (r ≡ Err error) × (entries_of new ≡ entries_of old)

-- The item is put under the key, and other keys keep what they have: the answer is what was there. Or memory is wanting.
abbrev pub Puts : Key → Item → Table → Table → Result (Option Item) TableError → Type 0
Puts key item old new r =
    MatchResult r (λ before. (before ≡ get key_cmp (items_of old) key) × Updates key_cmp (items_of old) (items_of new) key (Some item))
    (λ error. Refuses error old new r × (error ≡ TableError.OutOfMemory))

-- the same where the condition holds of what is under the key
abbrev pub PutsUnder : Condition → Key → Item → Table → Table → Result (Option Item) TableError
    → Type 0
PutsUnder condition key item old new r =
    MatchBool (holds condition (is_some (get key_cmp (items_of old) key)))
    (Puts key item old new r) (Refuses TableError.ConditionFailed old new r)

-- the same under the item's own key
abbrev pub PutsIf : Condition → Item → Table → Table → Result (Option Item) TableError → Type 0
PutsIf condition item old new r =
    (key : Result Key TableError) × ReadsKey (schema_of old) item key
    × MatchResult key (λ k. PutsUnder condition k item old new r) (λ error. Refuses error old new r)

-- The item is put under its own key, which is returned, and other keys keep what they have. Or the item has no key, or memory
-- is wanting.
abbrev pub PutsItem : Item → Table → Table → Result Key TableError → Type 0
PutsItem item old new r =
    MatchResult r
    (λ key. ReadsKey (schema_of old) item (Ok key)
    × Updates key_cmp (items_of old) (items_of new) key (Some item))
    (λ error. (ReadsKey (schema_of old) item (Err error) ⊎ (error ≡ TableError.OutOfMemory))
    × (entries_of new ≡ entries_of old))

-- the condition doesn't hold of what the table has under the item's key
abbrev pub FailsCondition : Condition → Item → Table → Type 0
FailsCondition condition item table =
    (key : Key) × ReadsKey (schema_of table) item (Ok key)
    × (holds condition (is_some (get key_cmp (items_of table) key)) ≡ false)

-- Why an item isn't put: it has no key, memory is wanting, or the condition doesn't hold.
abbrev pub RefusesItem : Condition → Item → Table → TableError → Type 0
RefusesItem condition item table error =
    ReadsKey (schema_of table) item (Err error)
    ⊎ (error ≡ TableError.OutOfMemory)
    ⊎ ((error ≡ TableError.ConditionFailed) × FailsCondition condition item table)

-- The item is put under its own key, which is returned, where the condition holds there, and other
-- keys keep what they have. Or the table has the items that it had.
abbrev pub PutsItemIf : Condition → Item → Table → Table → Result Key TableError → Type 0
PutsItemIf condition item old new r =
    MatchResult r
    (λ key. ReadsKey (schema_of old) item (Ok key)
    × (holds condition (is_some (get key_cmp (items_of old) key)) ≡ true)
    × Updates key_cmp (items_of old) (items_of new) key (Some item))
    (λ error. RefusesItem condition item old error × (entries_of new ≡ entries_of old))

-- nothing is under the key from now on, where the condition holds of what was there, which is the answer
abbrev pub DeletesIf : Condition → Key → Table → Table → Result (Option Item) TableError → Type 0
DeletesIf condition key old new r =
    MatchBool (holds condition (is_some (get key_cmp (items_of old) key)))
    ((r ≡ Ok (get key_cmp (items_of old) key)) × Updates key_cmp (items_of old) (items_of new) key None)
    (Refuses TableError.ConditionFailed old new r)

-- the call is refused by such an error, and the items are as they were
abbrev pub RefusesBy : {E : Type 0} → (E → Type 0) → BTreeMap Key Item → BTreeMap Key Item
    → Result (Unit {0}) E → Type 0
RefusesBy Is old new r = IsErrAnd r Is × (new.entries ≡ old.entries)

-- The item that a change made takes the place of the one under the key, where it has the same key.
-- What the caller's type of errors makes of an error of the table, `gives` says.
abbrev pub Replaces : {E : Type 0} → (TableError → E → Type 0) → KeySchema → Key
    → BTreeMap Key Item → BTreeMap Key Item → Result (Unit {0}) E → Item → Type 0
Replaces gives schema key old new r item =
    (own : Result Key TableError) × ReadsKey schema item own
    × MatchResult own
    (λ k. MatchBool (is_ne (key_cmp k key)) (RefusesBy (gives TableError.KeyChanged) old new r)
    (IsOkAnd r (λ _. Updates key_cmp old new k (Some item))))
    (λ error. RefusesBy (gives error) old new r)

-- The item under the key is replaced by what the change makes of it, which has the same key. Or
-- there is no item, the change fails with an error of its own, or what it makes has no key or
-- another, or memory is wanting.
abbrev pub ChangesItem : {E : Type 0} → (TableError → E → Type 0) → (Item → Result Item E → Type 0)
    → KeySchema → Key → BTreeMap Key Item → BTreeMap Key Item → Result (Unit {0}) E → Type 0
ChangesItem gives Makes schema key old new r =
    MatchOption (get key_cmp old key) (RefusesBy (gives TableError.NoItem) old new r)
    (λ item. (made : Result Item _) × Makes item made
    × MatchResult made (Replaces gives schema key old new r) (λ error. RefusesBy (λ e. e ≡ error) old new r))

-- the same of a table
abbrev pub UpdatesItem : {E : Type 0} → (TableError → E → Type 0) → (Item → Result Item E → Type 0)
    → Key → Table → Table → Result (Unit {0}) E → Type 0
UpdatesItem gives Makes key old new r =
    ChangesItem gives Makes (schema_of old) key (items_of old) (items_of new) r
