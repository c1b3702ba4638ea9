-- Worked rows of what is shown and read, each by computing.
use Rattle.std.proofs.Common.{◌≡◌, pos, negsuc, true, false, [], ◌∷◌, Some, None, Ok, Err, refl}
use Rattle.std.specs.Prelude.{codes}
use Rattle.std.specs.Str.{chars}
use Rattle.dynamo_value.specs.Av as av
use Rattle.dynamo_value.specs.Fault.{failed_to_parse_int, failed_to_parse_float, expected_num, expected_string, expected_char, expected_map, expected_unit, expected_single_key}
use Rattle.dynamo_value.specs.Integer.{u8, i64, u64}
use Rattle.dynamo_de.specs.Answer as answer
use Rattle.dynamo_de.specs.Ignored.{read_ignored}
use Rattle.dynamo_de.specs.Reading.{read_bool, read_integer, read_char, read_content}
use Rattle.dynamo_de.specs.Shown.{shown}
use Rattle.dynamo_de.specs.Showing as showing
use Rattle.dynamo_de.specs.Source.{attribute, key_text, number_text}
use Rattle.dynamo_de.specs.declared.request.Request.TheVariants as request

-- a plus sign and leading zeros are read; a number out of range is refused with its text
plus : read_integer u8 (attribute (av.N (codes "+7"))) ≡ answer.value (pos 7)
plus = refl

zeros : read_integer u8 (attribute (av.N (codes "007"))) ≡ answer.value (pos 7)
zeros = refl

too_big : read_integer u8 (attribute (av.N (codes "256"))) ≡ answer.fault (failed_to_parse_int (codes "256"))
too_big = refl

minus_zero : read_integer u8 (number_text (codes "-0")) ≡ answer.fault (failed_to_parse_int (codes "-0"))
minus_zero = refl

no_number : read_integer u8 (attribute (av.S (codes "7"))) ≡ answer.fault expected_num
no_number = refl

key_is_no_number : read_integer u8 (key_text (codes "x")) ≡ answer.fault expected_num
key_is_no_number = refl

-- the one character of a string, and of a key
two_characters : read_char (attribute (av.S (codes "ab"))) ≡ answer.fault expected_char
unfolding chars
two_characters = refl

two_characters_in_a_key : read_char (key_text (codes "ab")) ≡ answer.refused
unfolding chars
two_characters_in_a_key = refl

no_boolean : read_bool (key_text (codes "yes")) ≡ answer.fault expected_string
no_boolean = refl

-- `NULL` with false is a content like any other
false_is_some : read_content (attribute (av.Null false)) ≡ answer.value (Some (attribute (av.Null false)))
false_is_some = refl

true_is_none : read_content (attribute (av.Null true)) ≡ answer.value None
true_is_none = refl

-- a number of unknown kind is an i64, else a u64, else a float's text
small : shown request.Any (attribute (av.N (codes "-5"))) ≡ Ok (showing.integer i64 (negsuc 4))
small = refl

big : shown request.Any (attribute (av.N (codes "18446744073709551615"))) ≡ Ok (showing.integer u64 (pos 18446744073709551615))
big = refl

fraction : shown request.Any (number_text (codes "1.5")) ≡ Ok (showing.number_text (codes "1.5"))
fraction = refl

no_text_of_a_number : shown request.IgnoredAny (attribute (av.N (codes "abc"))) ≡ Err (failed_to_parse_float (codes "abc"))
no_text_of_a_number = refl

-- a struct isn't read from a set, and a variant has one key
set_is_no_struct : shown request.Struct (attribute (av.Ss (codes "a" ∷ []))) ≡ Err expected_map
set_is_no_struct = refl

two_keys : shown request.Enum (attribute (av.M (av.member (codes "a") (av.Null true) (av.member (codes "b") (av.Null true) av.no_members)))) ≡ Ok (showing.variant (Err expected_single_key))
two_keys = refl

-- the first fault in the order of the keys, at every depth
ignored_depth : read_ignored (attribute (av.M (av.member (codes "a") (av.L (av.element (av.Null false) av.no_elements)) (av.member (codes "b") (av.N (codes "abc")) av.no_members)))) ≡ answer.fault expected_unit
ignored_depth = refl
