-- That a statement is run with these parameters, on the connection before a call, and leaves the
-- one after it.
use Rattle.std.specs.Prelude.{◌≡◌, ◌≢◌, ◌⊎◌, ⊤, ◌<◌, ℕ, ℤ, pos, List, [], ◌∷◌, length, take, Option}
use Rattle.std.specs.Prelude.{Some, None, Result, Ok, Err, MatchResult, if◌then◌else◌}
use Rattle.std.specs.List.{AllZip}
use Rattle.std.specs.Ordering.{is_ne}
use Rattle.std.specs.Result.{result_map_both}
use Rattle.std.specs.declared.alloc.Global.{Global}
use Rattle.std.specs.declared.vec.Vec.{Vec}
use Rattle.serde_json.specs.Read.{read}
use Rattle.sqlite.specs.Batch.{ExecutesAll}
use Rattle.sqlite.specs.Held.{Held, state}
use Rattle.sqlite.specs.Order.{Row, column}
use Rattle.sqlite.specs.State.{Executes, FailsToQuery, HasCleanDisk, QueriesRow, Shown}
use Rattle.sqlite.specs.Store.{Ghosts}
use Rattle.sqlite.specs.declared.error.Error.{Error}
use Rattle.sqlite.specs.declared.error.ErrorCode.{ErrorCode}
use Rattle.sqlite.specs.declared.types.Value.TheVariants.{Int, Text}
use Rattle.dynamo_value.specs.Item.{item_view}
use Rattle.dynamo_value.specs.declared.item.Item.{Item}
use Rattle.dynamo_json.specs.Json.{item_json}
use Rattle.table_keys.specs.KeyOf.{ReadsKey}
use Rattle.table_keys.specs.KeyOrder.{key_cmp}
use Rattle.table_keys.specs.declared.bytes.KeyBytes.{KeyBytes}
use Rattle.table_keys.specs.declared.error.TableError.{TableError}
use Rattle.table_keys.specs.declared.key.Key.{Key}
use Rattle.table_keys.specs.declared.schema.KeySchema.{KeySchema}
use Rattle.table_store.specs.Errors.{of_database, of_foreign}
use Rattle.table_store.specs.Statements.{count_text, delete_text, get_text, place, put_text, row_of}
use Rattle.table_store.specs.declared.error.StoreError.{StoreError}
use Rattle.table_store.specs.declared.rows.definition.Definition.{Definition}

-- the first column of the row is a text, whose DynamoDB JSON is that of the item
abbrev pub IsItemOf : Row → Item → Type 0
IsItemOf row item =
    (text : List ℕ) × (column row 0 ≡ Text text) × (read text ≡ Some (item_json (item_view item)))

-- no item was read of a row
abbrev pub IsUnread : StoreError → Type 0
IsUnread e = (e ≡ StoreError.Unreadable) ⊎ (e ≡ StoreError.OutOfMemory)

-- the item of a row
abbrev pub IsRead : Row → Result (Option Item) StoreError → Type 0
IsRead row (Ok found) = (item : Item) × (found ≡ Some item) × IsItemOf row item
IsRead row (Err e) = IsUnread e

-- the item of the first row, none if there is no row
abbrev pub IsFirst : List Row → Result (Option Item) StoreError → Type 0
IsFirst [] r = r ≡ Ok None
IsFirst (row ∷ more) r = IsRead row r

-- the list of what was read, or the error
abbrev pub listed : {A E : Type 0} → Result (Vec A Global) E → Result (List A) E
listed = result_map_both (λ v. v.items) (λ e. e)

-- the items of the rows, or the error of one that isn't read
abbrev pub AreRead : List Row → Result (List Item) StoreError → Type 0
AreRead rows (Ok items) = AllZip IsItemOf rows items
AreRead rows (Err e) = ((e ≡ StoreError.Unreadable) × (rows ≢ [])) ⊎ (e ≡ StoreError.OutOfMemory)

-- The item is returned if it has this key, and refused if it has another one or none.
abbrev pub IfOwn : {A : Type 0} → KeySchema → Key → Item → A → Result A StoreError → Type 0
IfOwn schema key item a r =
    (own : Result Key TableError) × ReadsKey schema item own × MatchResult own
    (λ own. r ≡ (if is_ne (key_cmp own key) then Err StoreError.Unreadable else Ok a)) (λ error. r ≡ Err (of_foreign error))

-- what was found under a key, if it is an item of this key
abbrev pub IsOwn : KeySchema → Key → Result (Option Item) StoreError
    → Result (Option Item) StoreError → Type 0
IsOwn schema key (Ok (Some item)) r = IfOwn schema key item (Some item) r
IsOwn schema key found r = r ≡ found

-- The number in the first column of the row. It is refused only if there is none, or if memory runs
-- out.
abbrev pub IsNumberOf : Row → Result ℕ StoreError → Type 0
IsNumberOf row (Ok n) = column row 0 ≡ Int (pos n)
IsNumberOf row (Err e) =
    (fault : Error) × (e ≡ of_database fault)
    × (fault ≢ Error.SqliteFailure ErrorCode.OutOfMemory → 0 < length row → (n : ℕ) → column row 0 ≢ Int (pos n))

module _ {S : Type 0} (g : Ghosts S) where
  -- so far the disk has returned what was written
  abbrev pub IsClean : Held S → Type 0
  IsClean conn = HasCleanDisk (state g conn)

  -- a disk that is clean was clean before
  abbrev pub WasClean : Held S → Held S → Type 0
  WasClean old new = IsClean new → IsClean old

  -- a query shows these rows of the database and leaves it as it was, or it fails
  unfoldable pub Queries : List ℕ → Row → Held S → Held S → Result (List Row) StoreError → Type 0
  Queries sql params old new (Ok rows) = Shown sql params (state g old) (state g new) rows
  Queries sql params old new (Err e) =
      (fault : Error) × FailsToQuery sql params (state g old) (state g new) fault × (e ≡ of_database fault)

  -- a statement changes the database, or it fails
  unfoldable pub Changes : List ℕ → Row → Held S → Held S → Result ⊤ StoreError → Type 0
  Changes sql params old new (Ok _) =
      (count : ℕ) × Executes sql params (state g old) (state g new) (Ok count)
  Changes sql params old new (Err e) =
      (fault : Error) × Executes sql params (state g old) (state g new) (Err fault) × (e ≡ of_database fault)

  -- nothing is run
  abbrev pub Stops : {A : Type 0} → StoreError → Held S → Held S → Result A StoreError → Type 0
  Stops e old new r = (r ≡ Err e) × (new ≡ old)

  -- the item of a key is that of the first row that the query shows
  unfoldable pub Gets : ℤ → KeyBytes → Held S → Held S → Result (Option Item) StoreError → Type 0
  Gets id key old new r =
      (rows : Result (List Row) StoreError) × Queries get_text (place id key) old new rows
      × MatchResult rows (λ rows. IsFirst rows r) (λ e. r ≡ Err e)

  -- the row of the item is put, unless memory runs out for its text
  unfoldable pub Puts : ℤ → KeyBytes → Item → Held S → Held S → Result ⊤ StoreError → Type 0
  Puts id key item old new r = Changes put_text (row_of id key item) old new r
      ⊎ Stops StoreError.OutOfMemory old new r

  unfoldable pub Deletes : ℤ → KeyBytes → Held S → Held S → Result ⊤ StoreError → Type 0
  Deletes id key = Changes delete_text (place id key)

  -- that item, if it has this key
  unfoldable pub GetsOwn : Definition → Key → KeyBytes → Held S → Held S
      → Result (Option Item) StoreError → Type 0
  GetsOwn table key bytes old new r =
      (found : Result (Option Item) StoreError) × Gets table.id bytes old new found × IsOwn table.schema key found r

  -- the number that the one row of the query shows
  unfoldable pub Counts : ℤ → Held S → Held S → Result ℕ StoreError → Type 0
  Counts id old new r =
      (row : Result Row Error) × QueriesRow count_text (Int id ∷ []) (state g old) (state g new) row
      × MatchResult row (λ row. IsNumberOf row r) (λ fault. r ≡ Err (of_database fault))

  -- the items of the rows that a query shows, of so many at most
  unfoldable pub Finds : List ℕ → Row → ℕ → Held S → Held S → Result (List Item) StoreError → Type 0
  Finds sql params limit old new r =
      (rows : Result (List Row) StoreError) × Queries sql params old new rows
      × MatchResult rows (λ rows. AreRead (take limit rows) r) (λ e. r ≡ Err e)

  -- a text of statements without parameters is run, or it fails
  unfoldable pub RunsText : List ℕ → Held S → Held S → Result ⊤ StoreError → Type 0
  RunsText sql old new r =
      (done : Result ⊤ Error) × ExecutesAll g sql old new done
      × MatchResult done (λ _. r ≡ Ok tt) (λ fault. r ≡ Err (of_database fault))
