-- The printed text of an error, by its kind: that of its fault. A failed integer text is followed by its cause, which no fault
-- holds.
use Rattle.std.specs.Prelude.{ℕ, List, ◌++◌, Option, Some, codes, string_bytes}
use Rattle.std.specs.Str.Parse.{error_kind}
use Rattle.std.specs.declared.num.IntErrorKind.{IntErrorKind}
use Rattle.dynamo_value.specs.Fault.{printed}
use Rattle.dynamo_value.specs.Kind.{fault_of}
use Rattle.dynamo_value.specs.declared.error.ErrorImpl.{ErrorImpl}

-- why a text is no integer, in the words of the standard library
abbrev pub integer_cause : IntErrorKind → List ℕ
integer_cause IntErrorKind.Empty = codes "cannot parse integer from empty string"
integer_cause IntErrorKind.InvalidDigit = codes "invalid digit found in string"
integer_cause IntErrorKind.PosOverflow = codes "number too large to fit in target type"
integer_cause IntErrorKind.NegOverflow = codes "number too small to fit in target type"
integer_cause IntErrorKind.Zero = codes "number would be zero for non-zero type"

abbrev pub kind_text : ErrorImpl → Option (List ℕ)
kind_text (ErrorImpl.FailedToParseInt text cause) = Some (codes "Failed to parse '" ++ (string_bytes text ++ (codes "' as an integer: " ++ integer_cause (error_kind cause))))
kind_text kind = printed (fault_of kind)
