-- Errors of the calls that open, create, query or close a table.
use Rattle.std.specs.Prelude.{◌≡◌, ◌⊎◌, Err}
use Rattle.dynamo_value.specs.declared.item.Item.{Item}
use Rattle.sqlite.specs.declared.error.Error.{Error}
use Rattle.table_keys.specs.KeyOf.{ReadsKey}
use Rattle.table_keys.specs.declared.error.TableError.{TableError}
use Rattle.table_keys.specs.declared.schema.KeySchema.{KeySchema}
use Rattle.table_store.specs.Errors.{of_database, of_table}
use Rattle.table_store.specs.declared.error.StoreError.{StoreError}

-- memory ran out, or the database failed
abbrev pub IsOfDatabase : StoreError → Type 0
IsOfDatabase e = (e ≡ StoreError.OutOfMemory) ⊎ ((cause : Error) × (e ≡ of_database cause))

-- an error of the database, or what the database keeps doesn't read
abbrev pub IsOfRow : StoreError → Type 0
IsOfRow e = IsOfDatabase e ⊎ (e ≡ StoreError.Unreadable)

-- opening fails by one of these, or there is no such table
abbrev pub OpenFails : StoreError → Type 0
OpenFails e = IsOfRow e ⊎ (e ≡ StoreError.NoTable)

-- creating fails as opening does, or the table has other keys
abbrev pub CreateFails : StoreError → Type 0
CreateFails e = OpenFails e ⊎ (e ≡ StoreError.OtherSchema)

-- a query fails by the database or by what it keeps, or by the error of the key of some item
abbrev pub QueryFails : KeySchema → StoreError → Type 0
QueryFails schema e =
    IsOfRow e ⊎ ((item : Item) × (error : TableError) × ReadsKey schema item (Err error) × (e ≡ of_table error))
