-- What an error holds: its fault, and why a text is no integer, which no fault holds. Errors are equal exactly where these are.
use Rattle.std.specs.Prelude.{Option, Some, None}
use Rattle.std.specs.Str.Parse.{error_kind}
use Rattle.std.specs.declared.num.IntErrorKind.{IntErrorKind}
use Rattle.dynamo_value.specs.Fault.{Fault}
use Rattle.dynamo_value.specs.Kind.{fault_of}
use Rattle.dynamo_value.specs.declared.error.ErrorImpl.{ErrorImpl}

abbrev pub cause_of : ErrorImpl → Option IntErrorKind
cause_of (ErrorImpl.FailedToParseInt text cause) = Some (error_kind cause)
cause_of _ = None

abbrev pub contents_of : ErrorImpl → Fault × Option IntErrorKind
contents_of kind = (fault_of kind, cause_of kind)
