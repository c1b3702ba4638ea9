-- The printed text of why a value could not be stored.
use Rattle.std.specs.Prelude.{ℕ, List, Option, Some}
use Rattle.dynamo_value.specs.KindText.{kind_text}
use Rattle.table_keys.specs.ErrorText.{error_text}
use Rattle.table_typed.specs.declared.error.TypedTableError.{TypedTableError}

-- that of the fault by itself
abbrev pub typed_table_error_text : TypedTableError → Option (List ℕ)
typed_table_error_text (TypedTableError.Value error) = kind_text error
typed_table_error_text (TypedTableError.Table error) = Some (error_text error)
