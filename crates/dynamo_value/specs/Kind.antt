-- The fault of a kind of error. An error is seen as its kind, so that this is the fault of an error too.
use Rattle.std.specs.Prelude.{string_bytes}
use Rattle.dynamo_value.specs.Fault as fault
use Rattle.dynamo_value.specs.Fault.{Fault}
use Rattle.dynamo_value.specs.declared.error.ErrorImpl.{ErrorImpl}

abbrev pub fault_of : ErrorImpl → Fault
fault_of (ErrorImpl.Message text) = fault.message (string_bytes text)
fault_of ErrorImpl.NotMaplike = fault.not_maplike
fault_of ErrorImpl.NotSetlike = fault.not_setlike
fault_of ErrorImpl.ExpectedString = fault.expected_string
fault_of ErrorImpl.ExpectedMap = fault.expected_map
fault_of ErrorImpl.ExpectedSeq = fault.expected_seq
fault_of ErrorImpl.ExpectedNum = fault.expected_num
fault_of ErrorImpl.ExpectedBool = fault.expected_bool
fault_of ErrorImpl.ExpectedChar = fault.expected_char
fault_of ErrorImpl.ExpectedUnit = fault.expected_unit
fault_of ErrorImpl.ExpectedUnitStruct = fault.expected_unit_struct
fault_of ErrorImpl.ExpectedEnum = fault.expected_enum
fault_of ErrorImpl.ExpectedBytes = fault.expected_bytes
fault_of ErrorImpl.ExpectedSingleKey = fault.expected_single_key
fault_of (ErrorImpl.FailedToParseInt text cause) = fault.failed_to_parse_int (string_bytes text)
fault_of (ErrorImpl.FailedToParseFloat text) = fault.failed_to_parse_float (string_bytes text)
fault_of ErrorImpl.KeyMustBeAString = fault.key_must_be_a_string
fault_of ErrorImpl.SerializeMapKeyCalledTwice = fault.serialize_map_key_called_twice
fault_of ErrorImpl.SerializeMapValueBeforeKey = fault.serialize_map_value_before_key
fault_of ErrorImpl.StringSetExpectedType = fault.string_set_expected_type
fault_of ErrorImpl.NumberSetExpectedType = fault.number_set_expected_type
fault_of ErrorImpl.BinarySetExpectedType = fault.binary_set_expected_type
fault_of ErrorImpl.OutOfMemory = fault.out_of_memory
fault_of ErrorImpl.MapValueBeforeKey = fault.map_value_before_key
