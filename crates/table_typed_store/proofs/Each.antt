-- Reading the items one after another fails.
use Rattle.std.proofs.Common.{◌≡◌, ◌++◌, List, ◌∷◌, Result, Ok, Err, IsErrAnd, subst, sym}
use Rattle.std.specs.List.{AllZip}
use Rattle.std.specs.declared.alloc.Global.{Global}
use Rattle.std.specs.declared.vec.Vec.{Vec}
use Rattle.dynamo_value.specs.Fault.{Fault}
use Rattle.dynamo_value.specs.declared.error.Error.{Error}
use Rattle.dynamo_value.specs.declared.item.Item.{Item}
use Rattle.table_store.specs.Runs.{listed}
use Rattle.table_store.specs.declared.error.StoreError.{StoreError}
use Rattle.table_typed.specs.Stored.{IsUnread}
use Rattle.table_typed_store.specs.Calls.{ReadsEach}
use Rattle.table_typed_store.specs.Stored.{ReadsAs}
use Rattle.table_typed_store.specs.declared.error.TypedStoreError.{TypedStoreError}

module _ {T : Type 0} (Reads : Item → Result T Fault → Type 0) (items : List Item) where
  pub wants_memory : (r : Result (Vec T Global) TypedStoreError) → IsErrAnd r (λ e. e ≡ TypedStoreError.Store StoreError.OutOfMemory)
      → ReadsEach Reads items (listed r)
  wants_memory (Ok _) is = absurd is
  wants_memory (Err e) is = subst (λ e. ReadsEach Reads items (Err e)) (sym is) (λ i. StoreError.OutOfMemory)

  pub fails_at : (before after : List Item) (item : Item) (values : List T) (fault : Error) (r : Result (Vec T Global) TypedStoreError)
      → before ++ item ∷ after ≡ items → AllZip (ReadsAs Reads) before values → IsUnread Reads item fault
      → IsErrAnd r (λ e. e ≡ TypedStoreError.Value fault) → ReadsEach Reads items (listed r)
  fails_at before after item values fault (Ok _) all read unread is = absurd is
  fails_at before after item values fault (Err e) all read unread is =
      subst (λ e. ReadsEach Reads items (Err e)) (sym is) (before, item, after, values, sym all, read, unread)
