-- Errors of the calls that create or query a table of values.
use Rattle.std.specs.Prelude.{◌≡◌, ◌⊎◌, List, Result, Err, All}
use Rattle.dynamo_value.specs.Fault.{Fault}
use Rattle.dynamo_value.specs.declared.item.Item.{Item}
use Rattle.table_keys.specs.declared.query.Query.{Query}
use Rattle.table_keys.specs.declared.schema.KeySchema.{KeySchema}
use Rattle.table_store.specs.Faults as items
use Rattle.table_store.specs.Found.{IsFound}
use Rattle.table_store.specs.declared.error.StoreError.{StoreError}
use Rattle.table_typed_store.specs.Calls.{ReadsEach}
use Rattle.table_typed_store.specs.declared.error.TypedStoreError.{TypedStoreError}

-- the call on the table of items failed with such an error
abbrev pub StoreFails : (StoreError → Type 0) → TypedStoreError → Type 0
StoreFails Fails e = (cause : StoreError) × (e ≡ TypedStoreError.Store cause) × Fails cause

-- the query of the items failed, or reading one of the items found
abbrev pub QueryFails : {T : Type 0} → (Item → Result T Fault → Type 0) → KeySchema → Query
    → TypedStoreError → Type 0
QueryFails Reads schema query e =
    StoreFails (items.QueryFails schema) e
    ⊎ ((found : List Item) × All (IsFound schema query) found × ReadsEach Reads found (Err e))
