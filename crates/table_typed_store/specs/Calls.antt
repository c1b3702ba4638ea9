-- What each call on a table of values runs: a call on the table of the items, and what is made of
-- what that returns.
use Rattle.std.specs.Prelude.{◌≡◌, ◌⊎◌, ◌++◌, ⊤, ℕ, Bool, List, ◌∷◌, Option, Result, Ok, Err}
use Rattle.std.specs.Prelude.{MatchResult, is_some}
use Rattle.std.specs.Borrow.{Bor}
use Rattle.std.specs.List.{AllZip}
use Rattle.sqlite.specs.Held.{Held}
use Rattle.sqlite.specs.Store.{Ghosts}
use Rattle.dynamo_value.specs.Fault.{Fault}
use Rattle.dynamo_value.specs.declared.error.Error.{Error}
use Rattle.dynamo_value.specs.declared.item.Item.{Item}
use Rattle.dynamo_place.specs.Placed.{without_place}
use Rattle.dynamo_place.specs.declared.located_error.LocatedError.{LocatedError}
use Rattle.table_keys.specs.declared.condition.Condition.{Condition}
use Rattle.table_keys.specs.declared.key.Key.{Key}
use Rattle.table_store.specs.Calls as items
use Rattle.table_store.specs.declared.error.StoreError.{StoreError}
use Rattle.table_store.specs.declared.rows.definition.Definition.{Definition}
use Rattle.table_typed.specs.Stored.{IsUnread, IsUnwritten, ReadsAt}
use Rattle.table_typed.specs.Updated.{MakesItem, MakesNone}
use Rattle.table_typed_store.specs.Stored.{ReadsAs}
use Rattle.table_typed_store.specs.declared.error.TypedStoreError.{TypedStoreError}

-- what a call on a table makes of the connection before it, the one after it and its result
abbrev pub Call : Type 0 → Type 0 → Type 0 → Type 1
Call S A E = Definition → Held S → Held S → Result A E → Type 0

-- this of what was returned
abbrev pub Gives : {A B : Type 0} → (A → B) → A → Result B TypedStoreError → Type 0
Gives f a r = r ≡ Ok (f a)

-- the value that the item reads as, if there is one, or the error of reading it
abbrev pub ReadsFound : {T : Type 0} → (Item → Result T Fault → Type 0) → Option Item
    → Result (Option T) TypedStoreError → Type 0
ReadsFound {T} Reads found r =
    (read : Result (Option T) Error) × ReadsAt Reads found read
    × MatchResult read (λ value. r ≡ Ok value) (λ e. r ≡ Err (TypedStoreError.Value e))

-- The values that the items read as, each in its place. Reading fails by the first item that
-- doesn't read, or where memory runs out for the values.
abbrev pub ReadsEach : {T : Type 0} → (Item → Result T Fault → Type 0) → List Item
    → Result (List T) TypedStoreError → Type 0
ReadsEach Reads items (Ok values) = AllZip (ReadsAs Reads) items values
ReadsEach {T} Reads items (Err (TypedStoreError.Value e)) =
    (before : List Item) × (item : Item) × (after : List Item) × (values : List T)
    × (items ≡ before ++ item ∷ after) × AllZip (ReadsAs Reads) before values × IsUnread Reads item e
ReadsEach Reads items (Err (TypedStoreError.Store e)) = e ≡ StoreError.OutOfMemory

module _ {S : Type 0} where
  -- This is made of what a call on the items returns. Its error is passed on.
  abbrev pub Made : {A B : Type 0} → Call S A StoreError → (A → Result B TypedStoreError → Type 0)
      → Call S B TypedStoreError
  Made {A} Does Of table old new r =
      (done : Result A StoreError) × Does table old new done
      × MatchResult done (λ a. Of a r) (λ e. r ≡ Err (TypedStoreError.Store e))

  -- The call runs for the item that the value is written as. If writing it has an error, nothing
  -- runs.
  abbrev pub WithItem : {T A : Type 0} → (T → Item → Type 0) → (T → Fault → Type 0) → T
      → (Item → Call S A TypedStoreError) → Call S A TypedStoreError
  WithItem Written Unwritten value Does table old new r =
      ((item : Item) × Written value item × Does item table old new r)
      ⊎ ((e : Error) × IsUnwritten Unwritten value e × (r ≡ Err (TypedStoreError.Value e)) × (new ≡ old))

  -- after an error of reading the items are got once more
  abbrev pub GotAgain : {B : Type 0} → Call S B StoreError → TypedStoreError → Definition → Held S
      → Held S → Type 0
  GotAgain {B} Gets (TypedStoreError.Value e) table old new = (found : Result B StoreError)
      × Gets table old new found
  GotAgain Gets (TypedStoreError.Store e) table old new = new ≡ old

  -- as the call that doesn't say where an error was found
  abbrev pub Located : {A B : Type 0} → Call S A TypedStoreError → Call S B StoreError
      → Call S A (LocatedError TypedStoreError)
  Located {A} Does Gets table old new r =
      (mid : Held S) × Does table old mid (without_place r)
      × MatchResult (without_place r) (λ _. new ≡ mid) (λ e. GotAgain Gets e table mid new)

module _ {S : Type 0} (g : Ghosts S) where
  -- the number of items
  abbrev pub CountsValues : {B : Type 0} → (ℕ → B) → Call S B TypedStoreError
  CountsValues f = Made (items.CountsAll g) (Gives f)

  -- the value of the item under the key
  abbrev pub GetsValue : {T : Type 0} → (Item → Result T Fault → Type 0) → Key
      → Call S (Option T) TypedStoreError
  GetsValue Reads key = Made (items.GetsAt g key) (ReadsFound Reads)

  -- the item under the key is deleted where the condition holds of it; whether there was one
  abbrev pub DeletesValue : Condition → Key → Call S Bool TypedStoreError
  DeletesValue condition key = Made (items.DeletesIf g condition key) (Gives is_some)

  -- the values of a page of the items
  abbrev pub ScansValues : {T : Type 0} → (Item → Result T Fault → Type 0) → ℕ → Option (Bor Key)
      → Call S (List T) TypedStoreError
  ScansValues Reads limit after = Made (items.Scans g limit after) (ReadsEach Reads)

  -- The item of the value is put where the condition holds of what is under its key. The key is
  -- returned, and whether anything was there.
  abbrev pub PutsValueIf : {T : Type 0} → (T → Item → Type 0) → (T → Fault → Type 0) → Condition → T
      → Call S (Key × Bool) TypedStoreError
  PutsValueIf Written Unwritten condition value =
      WithItem Written Unwritten value (λ item. Made (items.PutsIf g condition item) (Gives (λ done. (done.0, is_some done.1))))

  -- the same on no condition, and the key alone
  abbrev pub PutsValue : {T : Type 0} → (T → Item → Type 0) → (T → Fault → Type 0) → T
      → Call S Key TypedStoreError
  PutsValue Written Unwritten value =
      WithItem Written Unwritten value
      (λ item. Made (items.KeyOf g (items.PutsIf g Condition.Always item)) (Gives (λ key. key)))

  module _ {T E : Type 0} (Written : T → Item → Type 0) (Unwritten : T → Fault → Type 0)
      (Reads : Item → Result T Fault → Type 0)
      (Change : T → Result T E → Type 0) (gives : TypedStoreError → E → Type 0) where
    -- the item of what the change makes of the value that an item reads as, or the error
    abbrev pub ChangesItem : Item → Result Item E → Type 0
    ChangesItem item r =
        MatchResult r (MakesItem Written Reads Change item)
        (MakesNone Unwritten Reads Change (λ error e. gives (TypedStoreError.Value error) e) item)

    -- the item under the key is replaced by that one
    abbrev pub UpdatesValue : Key → Call S ⊤ E
    UpdatesValue = items.Updates g (λ error e. gives (TypedStoreError.Store error) e) ChangesItem
