-- An update of an item, said of the value that the item reads as.
use Rattle.std.proofs.Common.{Option, Some, None, Result, Ok, Err, IsErrAnd, ap, inl, inr}
use Rattle.std.specs.Prelude.{⊤}
use Rattle.std.specs.Result.{result_map_both}
use Rattle.sqlite.specs.Held.{Held}
use Rattle.sqlite.specs.Store.{Ghosts}
use Rattle.dynamo_value.specs.Fault.{Fault}
use Rattle.dynamo_value.specs.declared.item.Item.{Item}
use Rattle.table_keys.specs.declared.key.Key.{Key}
use Rattle.table_keys.specs.declared.schema.KeySchema.{KeySchema}
use Rattle.table_store.specs.Calls.{PutsMade, Updates, UpdatesFound}
use Rattle.table_store.specs.Content.{HasThisKey}
use Rattle.table_store.specs.declared.error.StoreError.{StoreError}
use Rattle.table_store.specs.declared.rows.definition.Definition.{Definition}
use Rattle.table_typed.specs.Updated.{MakesItem, MakesNone}
use Rattle.table_typed_store.specs.Stored.{FailsToChange, KeepsKey}
use Rattle.table_typed_store.specs.declared.change.Failed.{Failed}
use Rattle.table_typed_store.specs.declared.error.TypedStoreError.{TypedStoreError}

-- the caller's error
abbrev pub unwrapped : {A E : Type 0} → Result A (Failed E) → Result A E
unwrapped = result_map_both (λ a. a) (λ e. e.0)

module _ {T E : Type 0} (Reads : Item → Result T Fault → Type 0) (Change : T → Result T E → Type 0) where
  -- the changed value has the key that its item has
  pub keeps : (Written : T → Item → Type 0) (schema : KeySchema) (key : Key) (before after : Item)
      → MakesItem Written Reads Change before after → HasThisKey schema key after
      → KeepsKey Written Reads Change schema key
  keeps Written schema key before after is own =
      (is.0, is.1, (before, is.2), is.3, own.0, (after, is.4, own.1), own.2)

  -- why no item is made, said of the update
  pub fails : (Unwritten : T → Fault → Type 0) (Gives : TypedStoreError → E → Type 0) (before : Item) (e : E)
      → MakesNone Unwritten Reads Change (λ x e. Gives (TypedStoreError.Value x) e) before e
      → FailsToChange Reads Change Gives e
  fails Unwritten Gives before e (inl (x, unread, given)) = inr (TypedStoreError.Value x, given)
  fails Unwritten Gives before e (inr (b, reads, inl own)) = inl (b, (before, reads), own)
  fails Unwritten Gives before e (inr (b, reads, inr (after, change, x, unwritten, given))) =
      inr (TypedStoreError.Value x, given)

-- an update whose errors are kept in a wrapper, as one of the errors themselves
module _ {S E : Type 0} (g : Ghosts S) (given : StoreError → Failed E → Type 0) (gives : StoreError → E → Type 0)
    (Made : Item → Result Item (Failed E) → Type 0) (Makes : Item → Result Item E → Type 0)
    (to : (error : StoreError) (e : Failed E) → given error e → gives error e.0)
    (made : (item after : Item) → Made item (Ok after) → Makes item (Ok after))
    (not_made : (item : Item) (e : Failed E) → Made item (Err e) → Makes item (Err e.0)) (key : Key) (table : Definition) where
  err : (r : Result ⊤ (Failed E)) (error : StoreError) → IsErrAnd r (given error) → IsErrAnd (unwrapped r) (gives error)
  err (Ok _) error h = absurd h
  err (Err e) error h = to error e h

  put_made : (done : Result Item (Failed E)) (old new : Held S) (r : Result ⊤ (Failed E))
      → PutsMade g given Made key table done old new r → PutsMade g gives Makes key table (unwrapped done) old new (unwrapped r)
  put_made (Ok changed) old new r (Ok done, puts, is) = (Ok done, puts, ap unwrapped is)
  put_made (Ok changed) old new r (Err e, puts, is) = (Err e, puts, err r e is)
  put_made (Err e) old new r (is, same) = (ap unwrapped is, same)

  updates_found : (found : Option Item) (old new : Held S) (r : Result ⊤ (Failed E))
      → UpdatesFound g given Made key table found old new r → UpdatesFound g gives Makes key table found old new (unwrapped r)
  updates_found None old new r (fails, same) = (err r _ fails, same)
  updates_found (Some item) old new r (Ok after, how, puts) = (Ok after, made item after how, put_made (Ok after) old new r puts)
  updates_found (Some item) old new r (Err e, how, puts) = (Err e.0, not_made item e how, put_made (Err e) old new r puts)

  pub updates : (old new : Held S) (r : Result ⊤ (Failed E)) → Updates g given Made key table old new r
      → Updates g gives Makes key table old new (unwrapped r)
  unfolding Updates
  updates old new r (mid, Ok found, got, h) = (mid, Ok found, got, updates_found found mid new r h)
  updates old new r (mid, Err e, got, (fails, same)) = (mid, Err e, got, (err r e fails, same))
