-- The faults of writing and reading, and their printed texts.
use Rattle.std.specs.Prelude.{ℕ, List, [], ◌∷◌, ◌++◌, Option, Some, None, codes}

-- One for each kind of error. The texts are those that the kinds hold; the cause of a failed integer text isn't seen.
pub data Fault : Type 0 where
  message : List ℕ → Fault
  not_maplike not_setlike : Fault
  expected_string expected_map expected_seq expected_num expected_bool expected_char : Fault
  expected_unit expected_unit_struct expected_enum expected_bytes expected_single_key : Fault
  failed_to_parse_int failed_to_parse_float : List ℕ → Fault
  key_must_be_a_string serialize_map_key_called_twice serialize_map_value_before_key : Fault
  string_set_expected_type number_set_expected_type binary_set_expected_type : Fault
  out_of_memory map_value_before_key : Fault

-- why a text is no number
abbrev pub float_cause : List ℕ → List ℕ
float_cause [] = codes "cannot parse float from empty string"
float_cause (b ∷ bs) = codes "invalid float literal"

-- The printed text. That of a failed integer text ends with its cause, which no fault holds: the text of the error says it.
abbrev pub printed : Fault → Option (List ℕ)
printed (message text) = Some text
printed not_maplike = Some (codes "Not a map-like object")
printed not_setlike = Some (codes "Not a set-like sequence")
printed expected_string = Some (codes "Expected string")
printed expected_map = Some (codes "Expected map")
printed expected_seq = Some (codes "Expected seq")
printed expected_num = Some (codes "Expected num")
printed expected_bool = Some (codes "Expected bool")
printed expected_char = Some (codes "Expected char")
printed expected_unit = Some (codes "Expected unit")
printed expected_unit_struct = Some (codes "Expected unit struct")
printed expected_enum = Some (codes "Expected enum")
printed expected_bytes = Some (codes "Expected binary data")
printed expected_single_key = Some (codes "Expected an item with a single key")
printed (failed_to_parse_int text) = None
printed (failed_to_parse_float text) = Some (codes "Failed to parse '" ++ (text ++ (codes "' as a float: " ++ float_cause text)))
printed key_must_be_a_string = Some (codes "Key must be a string")
printed serialize_map_key_called_twice = Some (codes "SerializeMap::serialize_key called twice")
printed serialize_map_value_before_key = Some (codes "SerializeMap::serialize_value called before SerializeMap::serialize_key")
printed string_set_expected_type = Some (codes "String set element does not serialize to string")
printed number_set_expected_type = Some (codes "Number set element does not serialize to number")
printed binary_set_expected_type = Some (codes "Binary set element does not serialize to binary")
printed out_of_memory = Some (codes "out of memory")
printed map_value_before_key = Some (codes "MapAccess::next_value called before MapAccess::next_key")
