-- The one entry of a hashed map.
use Rattle.std.specs.Prelude.{◌≡◌, Some, Result, Ok, Err, String, string_bytes}
use Rattle.std.specs.declared.alloc.Global.{Global}
use Rattle.dynamo_value.specs.Av.{Members}
use Rattle.dynamo_value.specs.Entries.{Lent}
use Rattle.dynamo_value.specs.Kind.{fault_of}
use Rattle.dynamo_value.specs.View.{view}
use Rattle.dynamo_value.specs.declared.attribute_value.AttributeValue.{AttributeValue}
use Rattle.dynamo_value.specs.declared.error.ErrorImpl.{ErrorImpl}
use Rattle.dynamo_de.specs.Showing.{only_entry}
use Rattle.dynamo_de.specs.Source.{attribute}

-- the one entry of the members, or the fault of there being none or more
abbrev pub IsSingle : Members → Result (String Global × AttributeValue) ErrorImpl → Type 0
IsSingle ms (Ok e) = only_entry ms ≡ Ok (string_bytes e.0, Some (attribute (view e.1)))
IsSingle ms (Err e) = only_entry ms ≡ Err (fault_of e)

-- the same of an entry that is lent
abbrev pub IsLentSingle : Members → Result Lent ErrorImpl → Type 0
IsLentSingle ms (Ok e) = only_entry ms ≡ Ok (string_bytes e.0.now, Some (attribute (view e.1.now)))
IsLentSingle ms (Err e) = only_entry ms ≡ Err (fault_of e)
