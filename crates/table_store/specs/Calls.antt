-- What each call runs: one statement after the other, up to the first error.
use Rattle.std.specs.Prelude.{◌≡◌, ◌⊎◌, ⊤, ◌++◌, ◌-◌, ℕ, ℤ, List, [], ◌∷◌, Option, Some, None}
use Rattle.std.specs.Prelude.{Result, Ok, Err, IsErrAnd, MatchBool, MatchResult, is_some, length}
use Rattle.std.specs.Prelude.{◌==◌}
use Rattle.std.specs.Borrow.{Bor}
use Rattle.std.specs.Option.{option_copied}
use Rattle.std.specs.Ordering.{is_ne}
use Rattle.std.specs.declared.cmp.Ordering.TheVariants.{Less}
use Rattle.dynamo_value.specs.View.{text_cmp}
use Rattle.sqlite.specs.Held.{Held}
use Rattle.sqlite.specs.Store.{Ghosts}
use Rattle.dynamo_value.specs.declared.item.Item.{Item}
use Rattle.table_keys.specs.Conditions.{holds}
use Rattle.table_keys.specs.KeyBytes.{IsKeyBytes}
use Rattle.table_keys.specs.KeyOf.{ReadsKey}
use Rattle.table_keys.specs.KeyOrder.{key_cmp}
use Rattle.table_keys.specs.declared.bytes.KeyBytes.{KeyBytes}
use Rattle.table_keys.specs.declared.error.TableError.{TableError}
use Rattle.table_keys.specs.declared.condition.Condition.{Condition}
use Rattle.table_keys.specs.declared.key.Key.{Key}
use Rattle.table_keys.specs.declared.schema.KeySchema.{KeySchema}
use Rattle.table_store.specs.Depth.{is_kept}
use Rattle.table_store.specs.Errors.{of_table}
use Rattle.table_store.specs.Order.{IfBehind}
use Rattle.table_store.specs.Runs.{Counts, Deletes, Finds, GetsOwn, IsClean, Puts, RunsText, Stops}
use Rattle.table_store.specs.Statements.{begin_text, commit_text, following_of, following_text}
use Rattle.table_store.specs.Statements.{rest_of, rest_text, rollback_text}
use Rattle.table_store.specs.declared.error.StoreError.{StoreError}
use Rattle.table_store.specs.declared.rows.definition.Definition.{Definition}
use Rattle.table_store.specs.declared.store.TableStore.{TableStore}

-- the bytes of the key after which a page starts, or bytes that are less than those of each key
abbrev pub IsStart : Option (Bor Key) → KeyBytes → Type 0
IsStart (Some key) start = IsKeyBytes key.now start
IsStart None start =
    (key : Key) (bytes : KeyBytes) → IsKeyBytes key bytes → text_cmp start.partition.items bytes.partition.items ≡ Less

module _ {S : Type 0} (g : Ghosts S) where
  -- what a call makes of the connection before it, the one after it and its result
  abbrev pub Step : Type 0 → Type 1
  Step A = Held S → Held S → Result A StoreError → Type 0

  -- nothing more is run, and this is returned
  abbrev pub Returns : {A : Type 0} → A → Step A
  Returns a old new r = (r ≡ Ok a) × (new ≡ old)

  -- the second runs on what the first leaves; an error of the first is returned
  abbrev pub After : {A B : Type 0} → Step A → (A → Step B) → Step B
  After {A} First Next old new r =
      (mid : Held S) × (first : Result A StoreError) × First old mid first
      × MatchResult first (λ a. Next a mid new r) (λ e. Stops g e mid new r)

  -- for the key of an item, or the error of its key
  abbrev pub WithKey : {A : Type 0} → KeySchema → Item → (Key → Step A) → Step A
  WithKey schema item Next old new r =
      (key : Result Key TableError) × ReadsKey schema item key
      × MatchResult key (λ key. Next key old new r) (λ e. Stops g (of_table e) old new r)

  -- for the bytes of a key, unless memory runs out for them
  abbrev pub WithBytes : {A : Type 0} → Key → (KeyBytes → Step A) → Step A
  WithBytes key Next old new r =
      ((bytes : KeyBytes) × IsKeyBytes key bytes × Next bytes old new r)
      ⊎ Stops g StoreError.OutOfMemory old new r

  -- if the condition holds of what is there
  abbrev pub OnCondition : {A : Type 0} → Condition → Option Item → Step A → Step A
  OnCondition condition before Next old new r =
      MatchBool (holds condition (is_some before)) (Next old new r)
      (Stops g (StoreError.Key TableError.ConditionFailed) old new r)

  -- if DynamoDB keeps an item that nests so deep
  abbrev pub IfKept : {A : Type 0} → Item → Step A → Step A
  IfKept item Next old new r = MatchBool (is_kept item) (Next old new r)
      (Stops g StoreError.TooDeep old new r)

  -- ---- the calls on a table

  -- the item is put under the bytes of its key
  abbrev pub PutsAt : KeyBytes → Item → Definition → Step ⊤
  PutsAt bytes item table = IfKept item (Puts g table.id bytes item)

  -- the item under the key
  unfoldable pub GetsAt : Key → Definition → Step (Option Item)
  GetsAt key table = WithBytes key (GetsOwn g table key)

  -- The item is put under its key where the condition holds of what is there. These two are
  -- returned.
  unfoldable pub PutsIf : Condition → Item → Definition → Step (Key × Option Item)
  PutsIf condition item table =
      WithKey table.schema item (λ key. WithBytes key (λ bytes. After (GetsOwn g table key bytes) (λ before.
      OnCondition condition before (After (PutsAt bytes item table) (λ _. Returns (key, before))))))

  -- the key alone, or what was there
  abbrev pub KeyOf : (Definition → Step (Key × Option Item)) → Definition → Step Key
  KeyOf Puts table old new r =
      (done : Result (Key × Option Item) StoreError) × Puts table old new done
      × MatchResult done (λ it. r ≡ Ok it.0) (λ e. r ≡ Err e)

  abbrev pub BeforeOf : (Definition → Step (Key × Option Item)) → Definition → Step (Option Item)
  BeforeOf Puts table old new r =
      (done : Result (Key × Option Item) StoreError) × Puts table old new done
      × MatchResult done (λ it. r ≡ Ok it.1) (λ e. r ≡ Err e)

  -- the item under the key is deleted where the condition holds of it
  unfoldable pub DeletesIf : Condition → Key → Definition → Step (Option Item)
  DeletesIf condition key table =
      WithBytes key (λ bytes. After (GetsOwn g table key bytes) (λ before.
      OnCondition condition before (After (Deletes g table.id bytes) (λ _. Returns before))))

  -- a changed item is put under this key, which has to be its own
  unfoldable pub PutsChanged : Key → Item → Definition → Step ⊤
  PutsChanged key item table =
      WithKey table.schema item (λ own. λ old new r. MatchBool (is_ne (key_cmp own key))
      (Stops g (StoreError.Key TableError.KeyChanged) old new r)
      (WithBytes key (λ bytes. PutsAt bytes item table) old new r))

  -- the number of items
  abbrev pub CountsAll : Definition → Step ℕ
  CountsAll table = Counts g table.id

  -- both lists one after the other, unless memory runs out for them
  abbrev pub Joins : List Item → List Item → Step (List Item)
  Joins items more old new r = ((r ≡ Ok (items ++ more)) ⊎ (r ≡ Err StoreError.OutOfMemory))
      × (new ≡ old)

  -- so many items after a key: the rest of its partition, and if that has fewer, those that follow
  unfoldable pub Pages : ℤ → KeyBytes → ℕ → Step (List Item)
  Pages id start limit =
      After (Finds g rest_text (rest_of id start limit) limit) (λ items. λ old new r.
      let left = limit - length items in MatchBool (left == 0) (Returns items old new r)
      (After (Finds g following_text (following_of id start left) left) (Joins items) old new r))

  -- the items, if the first comes after the start, and each other one after the one before it
  abbrev pub InOrder : Option (Bor Key) → KeySchema → List Item → Step (List Item)
  InOrder after schema items old new r = IfBehind schema (option_copied after) items items r
      × (new ≡ old)

  -- so many items after a key, or from the first on, unless memory runs out for the bytes of the
  -- key
  unfoldable pub Scans : ℕ → Option (Bor Key) → Definition → Step (List Item)
  Scans limit after table old new r =
      ((start : KeyBytes) × IsStart after start × After (Pages table.id start limit) (InOrder after table.schema) old new r)
      ⊎ Stops g StoreError.OutOfMemory old new r

  -- the item is put under its key, whatever is there
  abbrev pub PutsOver : Item → Definition → Step ⊤
  PutsOver item table = WithKey table.schema item
      (λ key. WithBytes key (λ bytes. PutsAt bytes item table))

  -- each item is put under its key, up to the first error
  abbrev pub PutsEach : List Item → Definition → Step ⊤
  PutsEach [] table = Returns tt
  PutsEach (item ∷ items) table = After (PutsOver item table) (λ _. PutsEach items table)

  -- the transaction is committed, or after an error rolled back, and the error is returned
  abbrev pub Ends : Result ⊤ StoreError → Step ⊤
  Ends (Ok _) old new r = RunsText g commit_text old new r
  Ends (Err e) old new r = (r ≡ Err e) × (undone : Result ⊤ StoreError)
      × RunsText g rollback_text old new undone

  -- the items are put in one transaction
  unfoldable pub WritesAll : List Item → Definition → Step ⊤
  WritesAll items table =
      After (RunsText g begin_text) (λ _. λ old new r.
      (mid : Held S) × (done : Result ⊤ StoreError) × PutsEach items table old mid done × Ends done mid new r)

  -- an error of the table becomes one of the change
  abbrev pub Fails : {E : Type 0} → (StoreError → E → Type 0) → StoreError → Held S → Held S
      → Result ⊤ E → Type 0
  Fails gives error old new r = IsErrAnd r (gives error) × (new ≡ old)

  module _ {E : Type 0} (gives : StoreError → E → Type 0) (Makes : Item → Result Item E → Type 0)
      (key : Key) (table : Definition) where
    -- what the change made is put, or its error is returned
    abbrev pub PutsMade : Result Item E → Held S → Held S → Result ⊤ E → Type 0
    PutsMade (Ok changed) old new r =
        (done : Result ⊤ StoreError) × PutsChanged key changed table old new done
        × MatchResult done (λ _. r ≡ Ok tt) (λ error. IsErrAnd r (gives error))
    PutsMade (Err e) old new r = (r ≡ Err e) × (new ≡ old)

    -- the change is given the item that is there
    abbrev pub UpdatesFound : Option Item → Held S → Held S → Result ⊤ E → Type 0
    UpdatesFound None old new r = Fails gives (StoreError.Key TableError.NoItem) old new r
    UpdatesFound (Some item) old new r = (made : Result Item E) × Makes item made
        × PutsMade made old new r

    -- the item under the key is replaced by what the change makes of it
    unfoldable pub Updates : Held S → Held S → Result ⊤ E → Type 0
    Updates old new r =
        (mid : Held S) × (found : Result (Option Item) StoreError) × GetsAt key table old mid found
        × MatchResult found (λ found. UpdatesFound found mid new r) (λ e. Fails gives e mid new r)

-- the call does so if its disk is clean when it returns
abbrev pub Ran : {S A E : Type 0} (g : Ghosts S)
    → (Definition → Held S → Held S → Result A E → Type 0)
    → TableStore S → TableStore S → Result A E → Type 0
Ran g Does old new r = IsClean g new.conn → Does old.table old.conn new.conn r
