-- What a call ran, by what its statements ensure.
use Rattle.std.proofs.Common.{◌≡◌, ◌≢◌, ◌∙◌, ◌<◌, ◌≤◌, ℕ, ℤ, Bool, true, false, List, [], ◌∷◌, length, take, Option, Some, None, Result, Ok, Err, IfOk, IsErrAnd, MatchResult, slice_get, inl, inr, refl, ap, arith}
use Rattle.std.proofs.lemmas.List.{length-take}
use Rattle.std.specs.Ordering.{is_ne}
use Rattle.std.specs.Prelude.{⊤, pos, if◌then◌else◌}
use Rattle.std.specs.declared.alloc.Global.{Global}
use Rattle.std.specs.declared.vec.Vec.{Vec}
use Rattle.sqlite.specs.Held.{Held, state}
use Rattle.sqlite.specs.Order.{Row, column}
use Rattle.sqlite.specs.State.{Executes, FailsToQuery, Shown}
use Rattle.sqlite.specs.Store.{Ghosts}
use Rattle.sqlite.specs.declared.error.Error.{Error}
use Rattle.sqlite.specs.declared.error.ErrorCode.{ErrorCode}
use Rattle.sqlite.specs.declared.types.Value.TheVariants.{Int}
use Rattle.dynamo_value.specs.declared.item.Item.{Item}
use Rattle.table_keys.specs.KeyOrder.{key_cmp}
use Rattle.table_keys.specs.declared.bytes.KeyBytes.{KeyBytes}
use Rattle.table_keys.specs.declared.key.Key.{Key}
use Rattle.table_keys.specs.declared.schema.KeySchema.{KeySchema}
use Rattle.table_store.specs.Errors.{of_database, of_foreign}
use Rattle.table_store.specs.Runs.{AreRead, Changes, Finds, Gets, IfOwn, IsFirst, IsItemOf, IsNumberOf, IsRead, IsUnread, Puts, Queries, listed}
use Rattle.table_store.specs.Statements.{get_text, place, put_text, row_of}
use Rattle.table_store.specs.declared.error.StoreError.{StoreError}
use Rattle.table_store.proofs.Zipped.{same_length}

module _ {S : Type 0} (g : Ghosts S) (old new : Held S) where
  pub changed : (sql : List ℕ) (params : Row) (count : ℕ) → Executes sql params (state g old) (state g new) (Ok count)
      → Changes g sql params old new (Ok tt)
  unfolding Changes
  changed sql params count ran = (count, ran)

  pub not_changed : (sql : List ℕ) (params : Row) (fault : Error) (r : Result ⊤ StoreError)
      → IsErrAnd r (λ e. e ≡ of_database fault) → Executes sql params (state g old) (state g new) (Err fault) → Changes g sql params old new r
  unfolding Changes
  not_changed sql params fault (Ok _) is ran = absurd is
  not_changed sql params fault (Err e) is ran = (fault, ran, is)

  pub put : (id : ℤ) (key : KeyBytes) (item : Item) (r : Result ⊤ StoreError) → Changes g put_text (row_of id key item) old new r
      → Puts g id key item old new r
  unfolding Puts
  put id key item r ran = inl ran

  pub not_put : (id : ℤ) (key : KeyBytes) (item : Item) → Puts g id key item old old (Err StoreError.OutOfMemory)
  unfolding Puts
  not_put id key item = inr (refl, refl)

  pub got : (id : ℤ) (key : KeyBytes) (rows : List Row) (r : Result (Option Item) StoreError)
      → Shown get_text (place id key) (state g old) (state g new) rows → IsFirst rows r → Gets g id key old new r
  unfolding Gets Queries
  got id key rows r shown first = (Ok rows, shown, first)

  pub found : (sql : List ℕ) (params : Row) (limit : ℕ) (rows : List Row) (r : Result (List Item) StoreError)
      → Shown sql params (state g old) (state g new) rows → AreRead (take limit rows) r → Finds g sql params limit old new r
  unfolding Finds Queries
  found sql params limit rows r shown read = (Ok rows, shown, read)

  pub not_found : (sql : List ℕ) (params : Row) (limit : ℕ) (fault : Error) (r : Result (Vec Item Global) StoreError)
      → IsErrAnd r (λ e. e ≡ of_database fault) → FailsToQuery sql params (state g old) (state g new) fault
      → Finds g sql params limit old new (listed r)
  unfolding Finds Queries
  not_found sql params limit fault (Ok _) is fails = absurd is
  not_found sql params limit fault (Err e) is fails = (Err e, (fault, fails, is), refl)

  pub not_got : (id : ℤ) (key : KeyBytes) (fault : Error) (r : Result (Option Item) StoreError)
      → IsErrAnd r (λ e. e ≡ of_database fault) → FailsToQuery get_text (place id key) (state g old) (state g new) fault
      → Gets g id key old new r
  unfolding Gets Queries
  not_got id key fault (Ok _) is fails = absurd is
  not_got id key fault (Err e) is fails = (Err e, (fault, fails, is), refl)

pub first_found : (rows : List Row) (row : Row) (r : Result (Option Item) StoreError) → slice_get rows 0 ≡ Some row → IsRead row r → IsFirst rows r
first_found [] row r is h = absurd cc
first_found (it ∷ more) row r is h = let same : it ≡ row = cc in rw same h

pub none_found : (rows : List Row) → slice_get rows 0 ≡ None → IsFirst rows (Ok None)
none_found [] is = refl
none_found (it ∷ more) is = absurd cc

pub unread : (row : Row) (fault : StoreError) (r : Result (Option Item) StoreError) → IsErrAnd r (λ e. e ≡ fault) → IsUnread fault → IsRead row r
unread row fault (Ok _) is h = absurd is
unread row fault (Err e) is h = rw is h

-- an item that is refused, or returned, as what was found
relayed : (b : Bool) (item : Item) (r : Result Item StoreError) (s : Result (Option Item) StoreError)
    → r ≡ (if b then Err StoreError.Unreadable else Ok item) → MatchResult r (λ it. s ≡ Ok (Some item)) (λ e. IsErrAnd s (λ x. x ≡ e))
    → s ≡ (if b then Err StoreError.Unreadable else Ok (Some item))
relayed true item (Ok it) s is h = absurd cc
relayed true item (Err e) (Ok _) is h = absurd h
relayed true item (Err e) (Err x) is h = let same : e ≡ StoreError.Unreadable = cc in ap Err (h ∙ same)
relayed false item (Ok it) s is h = h
relayed false item (Err e) s is h = absurd cc

refuses : (r : Result Item StoreError) (item : Item) (s : Result (Option Item) StoreError) (e : StoreError)
    → r ≡ Err e → MatchResult r (λ it. s ≡ Ok (Some item)) (λ e. IsErrAnd s (λ x. x ≡ e)) → s ≡ Err e
refuses (Ok it) item s e is h = absurd cc
refuses (Err x) item (Ok _) e is h = absurd h
refuses (Err x) item (Err y) e is h = let same : x ≡ e = cc in ap Err (h ∙ same)

pub own_found : (schema : KeySchema) (key : Key) (item : Item) (r : Result Item StoreError) (s : Result (Option Item) StoreError)
    → IfOwn schema key item item r → MatchResult r (λ it. s ≡ Ok (Some item)) (λ e. IsErrAnd s (λ x. x ≡ e))
    → IfOwn schema key item (Some item) s
own_found schema key item r s (Ok own, reads, is) h = (Ok own, reads, relayed (is_ne (key_cmp own key)) item r s is h)
own_found schema key item r s (Err error, reads, is) h = (Err error, reads, refuses r item s (of_foreign error) is h)

-- what a row shows of a number, if reading it fails
pub not_number : (row : Row) (fault : Error) (r : Result ℕ StoreError) → IsErrAnd r (λ e. e ≡ of_database fault)
    → (fault ≢ Error.SqliteFailure ErrorCode.OutOfMemory → 0 < length row → (n : ℕ) → column row 0 ≢ Int (pos n)) → IsNumberOf row r
not_number row fault (Ok n) is h = absurd is
not_number row fault (Err e) is h = (fault, is, h)

-- a row that isn't read is one of them
pub row_unread : (rows : List Row) (i : ℕ) (fault : StoreError) (r : Result (Vec Item Global) StoreError) → i < length rows
    → IsErrAnd r (λ e. e ≡ fault) → IsUnread fault → AreRead rows (listed r)
row_unread rows i fault (Ok _) lt is h = absurd is
row_unread rows i fault (Err e) lt is (inl h) = inl (is ∙ h, λ none. absurd (omega (arith, lt, ap length none)))
row_unread rows i fault (Err e) lt is (inr h) = inr (is ∙ h)

pub rows_want_memory : (rows : List Row) (r : Result (Vec Item Global) StoreError) → IsErrAnd r (λ e. e ≡ StoreError.OutOfMemory)
    → AreRead rows (listed r)
rows_want_memory rows (Ok _) is = absurd is
rows_want_memory rows (Err e) is = inr is

-- no more items are read than rows
pub at_most : (rows : List Row) (limit : ℕ) (r : Result (Vec Item Global) StoreError) → AreRead (take limit rows) (listed r)
    → IfOk r (λ items. length items.items ≤ limit)
at_most rows limit (Ok items) read =
    omega (arith, same_length IsItemOf (take limit rows) items.items read, length-take limit rows)
at_most rows limit (Err e) read = tt
