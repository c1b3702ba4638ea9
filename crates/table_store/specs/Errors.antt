-- Errors of a table in memory and of SQLite as those of a table in a database, and the printed
-- texts.
use Rattle.std.specs.Prelude.{ℕ, List, Option, Some, None, codes}
use Rattle.sqlite.specs.declared.error.Error.{Error}
use Rattle.sqlite.specs.declared.error.ErrorCode.{ErrorCode}
use Rattle.table_keys.specs.ErrorText.{error_text}
use Rattle.table_keys.specs.declared.error.TableError.{TableError}
use Rattle.table_store.specs.declared.error.StoreError.{StoreError}

-- out of memory is the same fault wherever it comes from
abbrev pub of_table : TableError → StoreError
of_table TableError.OutOfMemory = StoreError.OutOfMemory
of_table error = StoreError.Key error

-- an item in a row without its key can't be read; out of memory stays what it is
abbrev pub of_foreign : TableError → StoreError
of_foreign TableError.OutOfMemory = StoreError.OutOfMemory
of_foreign error = StoreError.Unreadable

-- the database's own out of memory as well
abbrev pub of_database : Error → StoreError
of_database (Error.SqliteFailure ErrorCode.OutOfMemory) = StoreError.OutOfMemory
of_database error = StoreError.Database error

-- the printed text, but where the database's own isn't promised
abbrev pub store_error_text : StoreError → Option (List ℕ)
store_error_text (StoreError.Key error) = Some (error_text error)
store_error_text (StoreError.Database error) = None
store_error_text StoreError.TooDeep = Some (codes "the item nests deeper than 32 levels")
store_error_text StoreError.Unreadable = Some (codes "what the database keeps does not read")
store_error_text StoreError.NoTable = Some (codes "the database has no table of this name")
store_error_text StoreError.OtherSchema = Some (codes "the table is there with other keys")
store_error_text StoreError.OutOfMemory = Some (codes "out of memory")
