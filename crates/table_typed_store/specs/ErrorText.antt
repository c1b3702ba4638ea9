-- The printed text of why a value could not be stored or got.
use Rattle.std.specs.Prelude.{ℕ, List, Option}
use Rattle.dynamo_value.specs.KindText.{kind_text}
use Rattle.table_store.specs.Errors.{store_error_text}
use Rattle.table_typed_store.specs.declared.error.TypedStoreError.{TypedStoreError}

-- that of the fault by itself
abbrev pub typed_store_error_text : TypedStoreError → Option (List ℕ)
typed_store_error_text (TypedStoreError.Value error) = kind_text error
typed_store_error_text (TypedStoreError.Store error) = store_error_text error
