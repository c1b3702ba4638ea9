-- Worked rows of reading, by computation.
use Rattle.std.proofs.Common.{◌≡◌, ℕ, pos, ◌-◌, ◌^◌, true, false, [], ◌∷◌, Ok, refl}
use Rattle.dynamo_shape.proofs.Common.{codes, value, fault, refused, Text, attribute, Variant}
use Rattle.dynamo_shape.proofs.Common.{Datum, no_pairs, pair, no_fields, field, written, required}
use Rattle.dynamo_shape.proofs.Common.{read_as, left_out, read, Shape, boolean, char, string, unit}
use Rattle.dynamo_shape.proofs.Common.{integer, option, newtype, list, struct, enum, no_shapes}
use Rattle.dynamo_shape.proofs.Common.{no_field_shapes, field_shape, nothing, one, several, named}
use Rattle.dynamo_shape.proofs.Common.{no_variants, variant, tagged, no_tagged, tagged_variant, Av}
use Rattle.dynamo_shape.proofs.Common.{N, S, Null, Ss, Ns, L, M, no_members, member}
use Rattle.dynamo_shape.proofs.Common.{failed_to_parse_int, failed_to_parse_float, expected_num}
use Rattle.dynamo_shape.proofs.Common.{expected_map, expected_string, expected_unit, expected_enum}
use Rattle.dynamo_shape.proofs.Common.{expected_char, expected_seq, expected_single_key, i64, i128}
use Rattle.dynamo_shape.proofs.Common.{u8, u64, u128, shape}
use Rattle.std.specs.Fmt.{digits}
use Rattle.dynamo_value.specs.Av as av
use Rattle.dynamo_ser.specs.Datum as datum
use Rattle.std.specs.Str.{chars}
use Rattle.dynamo_shape.specs.Shape.{tuple, map}

abbrev byte : ℕ → Datum
byte n = datum.integer u8 (pos n)

abbrev bytes_map : Shape
bytes_map = map (integer u8) (integer u8)

a_char_of_four_bytes : read char (attribute (S (0xF0 ∷ 0x9F ∷ 0xA5 ∷ 0xB3 ∷ []))) ≡ value (datum.char 0x1F973)
unfolding chars
a_char_of_four_bytes = refl

past_the_range : read (integer i64) (attribute (N (codes "18446744073709551615"))) ≡ fault (failed_to_parse_int (codes "18446744073709551615"))
past_the_range = refl

none_alone_is_read : read (option (option (integer u8))) (attribute (Null true)) ≡ value datum.none
none_alone_is_read = refl

integers_by_their_texts : (read (integer u8) (attribute (N (codes "256"))) ≡ fault (failed_to_parse_int (codes "256"))) × (read (integer u8) (attribute (N (codes "-0"))) ≡ fault (failed_to_parse_int (codes "-0"))) × (read (integer u8) (attribute (N (codes "007"))) ≡ value (byte 7)) × (read (integer u8) (attribute (S (codes "7"))) ≡ fault expected_num)
integers_by_their_texts = (refl, refl, refl, refl)

-- the value under the last of the texts of a key
the_last_text_of_a_key : read bytes_map (attribute (M (member (codes "01") (N (codes "5")) (member (codes "1") (N (codes "6")) no_members)))) ≡ value (datum.map (pair (byte 1) (byte 6) no_pairs))
the_last_text_of_a_key = refl

a_key_of_letters : read bytes_map (attribute (M (member (codes "x") (N (codes "5")) no_members))) ≡ fault expected_num
a_key_of_letters = refl

abbrev event : Shape
event = enum (codes "Event") (variant (codes "Unit") nothing (variant (codes "Newtype") (one (integer u8)) (variant (codes "Tuple") (several (shape (integer u8) (shape (integer u8) no_shapes))) (variant (codes "Structy") (named (field_shape (codes "one") (integer u8) required (field_shape (codes "two") (integer u8) required no_field_shapes))) no_variants))))

abbrev event_variant : ℕ → Text → Variant
event_variant i name = record { enum = codes "Event"; index = i; name = name }

variants : (read event (attribute (M (member (codes "Unit") (N (codes "x")) no_members))) ≡ value (datum.unit_variant (event_variant 0 (codes "Unit"))))
    × (read event (attribute (M no_members)) ≡ fault expected_single_key)
    × (read event (attribute (S (codes "Newtype"))) ≡ refused)
    × (read event (attribute (N (codes "1"))) ≡ fault expected_enum)
    × (read event (attribute (M (member (codes "Tuple") (L (av.element (N (codes "1")) (av.element (N (codes "2")) av.no_elements))) no_members))) ≡ value (datum.tuple_variant (event_variant 2 (codes "Tuple")) (datum.element (byte 1) (datum.element (byte 2) datum.no_elements))))
    × (read event (attribute (M (member (codes "Structy") (M (member (codes "one") (N (codes "1")) (member (codes "two") (N (codes "2")) no_members))) no_members))) ≡ value (datum.struct_variant (event_variant 3 (codes "Structy")) (field (codes "one") (byte 1) (field (codes "two") (byte 2) no_fields))))
variants = (refl, refl, refl, refl, refl, refl)

-- what is under the wrong variant
wrong_contents : (read event (attribute (M (member (codes "Tuple") (S (codes "a")) no_members))) ≡ fault expected_seq)
    × (read event (attribute (M (member (codes "Structy") (L (av.element (N (codes "1")) (av.element (N (codes "2")) av.no_elements))) no_members))) ≡ fault expected_map)
    × (read (map boolean (integer u8)) (attribute (M (member (codes "yes") (N (codes "1")) no_members))) ≡ fault expected_string)
wrong_contents = (refl, refl, refl)

abbrev two_bytes : Shape
two_bytes = tuple (shape (integer u8) (shape (integer u8) no_shapes))

two_elements_at_least : (read two_bytes (attribute (L (av.element (N (codes "1")) av.no_elements))) ≡ refused) × (read two_bytes (attribute (L (av.element (N (codes "1")) (av.element (N (codes "2")) (av.element (N (codes "3")) av.no_elements))))) ≡ value (datum.tuple (datum.element (byte 1) (datum.element (byte 2) datum.no_elements))))
two_elements_at_least = (refl, refl)

abbrev record_shape : Shape
record_shape = struct (codes "Struct") (field_shape (codes "id") string required (field_shape (codes "value") (integer u64) required no_field_shapes))

abbrev old_item : Av → Av
old_item a = M (member (codes "aws:rep:updatetime") a (member (codes "id") (S (codes "test-4")) (member (codes "value") (N (codes "42")) no_members)))

abbrev found : Datum
found = datum.struct (codes "Struct") (field (codes "id") (datum.string (codes "test-4")) (field (codes "value") (datum.integer u64 (pos 42)) no_fields))

unknown_attributes : (read record_shape (attribute (old_item (N (codes "1565723640.315001")))) ≡ value found) × (read record_shape (attribute (old_item (N (codes "abc")))) ≡ fault (failed_to_parse_float (codes "abc"))) × (read record_shape (attribute (old_item (Null false))) ≡ fault expected_unit)
unknown_attributes = (refl, refl, refl)

one_character : (read char (attribute (S [])) ≡ fault expected_char) × (read char (attribute (S (codes "ab"))) ≡ fault expected_char) × (read (map char (integer u8)) (attribute (M (member (codes "ab") (N (codes "1")) no_members))) ≡ refused)
unfolding chars
one_character = (refl, refl, refl)

wide_integers : (read (integer i128) (attribute (N (codes "170141183460469231731687303715884105728"))) ≡ fault (failed_to_parse_int (codes "170141183460469231731687303715884105728")))
    × (read (integer i128) (attribute (N (codes "1.5"))) ≡ fault (failed_to_parse_int (codes "1.5")))
    × (read (integer i128) (attribute (S (codes "5"))) ≡ fault expected_num)
    × (read (integer u128) (attribute (N (codes "340282366920938463463374607431768211455"))) ≡ value (datum.integer u128 (pos (2 ^ 128 - 1))))
    × (read (map (integer i128) unit) (attribute (M (member (codes "5") (Null true) no_members))) ≡ value (datum.map (pair (datum.integer i128 (pos 5)) datum.unit no_pairs)))
wide_integers = (refl, refl, refl, refl, refl)

wide_integers_in_sets : (read (list (integer u128)) (attribute (Ns (codes "18446744073709551616" ∷ []))) ≡ value (datum.seq (datum.element (datum.integer u128 (pos 18446744073709551616)) datum.no_elements)))
    × (read (list (integer u64)) (attribute (Ns (codes "18446744073709551616" ∷ []))) ≡ fault (failed_to_parse_int (codes "18446744073709551616")))
wide_integers_in_sets = (refl, refl)

no_newtype_in_a_set : read (list (newtype (codes "Name") string)) (attribute (Ss (codes "a" ∷ []))) ≡ refused
no_newtype_in_a_set = refl

abbrev user : Shape
user = struct (codes "User") (field_shape (codes "id") string required (field_shape (codes "name") string required (field_shape (codes "age") (integer u8) required no_field_shapes)))

forms_of_a_struct : (read (option (integer u8)) (attribute (Null false)) ≡ fault expected_num)
    × (read user (attribute (L (av.element (S (codes "a")) (av.element (S (codes "b")) (av.element (N (codes "7")) av.no_elements))))) ≡ value (datum.struct (codes "User") (field (codes "id") (datum.string (codes "a")) (field (codes "name") (datum.string (codes "b")) (field (codes "age") (byte 7) no_fields)))))
    × (read user (attribute (Ss (codes "a" ∷ []))) ≡ fault expected_map)
forms_of_a_struct = (refl, refl, refl)

-- without an age; a list with a wrong element; a set with one
what_is_missing_or_wrong : (read user (attribute (M (member (codes "id") (S (codes "x")) (member (codes "name") (S (codes "n")) no_members)))) ≡ refused)
    × (read (list (integer u8)) (attribute (L (av.element (N (codes "1")) (av.element (S (codes "2")) av.no_elements)))) ≡ fault expected_num)
    × (read (list (integer u8)) (attribute (Ns (codes "1" ∷ codes "256" ∷ []))) ≡ fault (failed_to_parse_int (codes "256")))
    × (read (list (option string)) (attribute (Ss (codes "a" ∷ []))) ≡ refused)
what_is_missing_or_wrong = (refl, refl, refl, refl)

abbrev visitor : Shape
visitor = struct (codes "Visitor") (field_shape (codes "id") string required (field_shape (codes "age") (integer u8) (read_as (byte 30)) (field_shape (codes "note") (option string) (read_as (datum.some (datum.string (codes "new")))) no_field_shapes)))

abbrev visitor_of : Datum → Datum → Datum
visitor_of age note = datum.struct (codes "Visitor") (field (codes "id") (datum.string (codes "x")) (field (codes "age") age (field (codes "note") note no_fields)))

-- a default is read where an entry is missing, for an option, too; what is there, in its place; in order nothing may be missing
defaults : (read visitor (attribute (M (member (codes "id") (S (codes "x")) no_members))) ≡ value (visitor_of (byte 30) (datum.some (datum.string (codes "new")))))
    × (read visitor (attribute (M (member (codes "age") (N (codes "7")) (member (codes "id") (S (codes "x")) (member (codes "note") (Null true) no_members))))) ≡ value (visitor_of (byte 7) datum.none))
    × (read visitor (attribute (M (member (codes "age") (N (codes "7")) no_members))) ≡ refused)
    × (read visitor (attribute (L (av.element (S (codes "x")) av.no_elements))) ≡ refused)
defaults = (refl, refl, refl, refl)

-- maps read in order
three_texts_of_a_key : read bytes_map (attribute (M (member (codes "+1") (N (codes "7")) (member (codes "01") (N (codes "5")) (member (codes "1") (N (codes "6")) no_members))))) ≡ value (datum.map (pair (byte 1) (byte 6) no_pairs))
three_texts_of_a_key = refl

the_first_fault_by_keys : read (map string (integer u8)) (attribute (M (member (codes "a") (N (codes "x")) (member (codes "b") (Null false) no_members)))) ≡ fault (failed_to_parse_int (codes "x"))
the_first_fault_by_keys = refl

a_value_before_a_later_key : read bytes_map (attribute (M (member (codes "1") (N (codes "y")) (member (codes "x") (N (codes "1")) no_members)))) ≡ fault (failed_to_parse_int (codes "y"))
a_value_before_a_later_key = refl

a_field_before_a_later_one : read user (attribute (M (member (codes "age") (S (codes "1")) (member (codes "id") (N (codes "2")) (member (codes "name") (S (codes "n")) no_members))))) ≡ fault expected_num
a_field_before_a_later_one = refl

an_unknown_attribute_first : read user (attribute (M (member (codes "aa") (Null false) (member (codes "age") (S (codes "1")) (member (codes "id") (S (codes "x")) (member (codes "name") (S (codes "n")) no_members)))))) ≡ fault expected_unit
an_unknown_attribute_first = refl

-- ---- fields that are left out

abbrev note_shape : Shape
note_shape = struct (codes "Note") (field_shape (codes "id") string required (field_shape (codes "text") (option string) (left_out datum.none) (field_shape (codes "stars") (integer u8) (left_out (byte 0)) (field_shape (codes "tags") (list string) (left_out (datum.seq datum.no_elements)) no_field_shapes))))

abbrev note_of : datum.Fields → Datum
note_of fs = datum.struct (codes "Note") (field (codes "id") (datum.string (codes "a")) fs)

-- nothing is there: all are left out; so they are where a default is there
left_out_fields : (read note_shape (attribute (M (member (codes "id") (S (codes "a")) no_members))) ≡ value (note_of no_fields))
    × (read note_shape (attribute (M (member (codes "id") (S (codes "a")) (member (codes "stars") (N (codes "0")) (member (codes "tags") (L av.no_elements) (member (codes "text") (Null true) no_members)))))) ≡ value (note_of no_fields))
    × (read note_shape (attribute (M (member (codes "id") (S (codes "a")) (member (codes "stars") (N (codes "7")) no_members)))) ≡ value (note_of (field (codes "stars") (byte 7) no_fields)))
    × (read note_shape (attribute (M (member (codes "stars") (N (codes "7")) no_members))) ≡ refused)
    × (read note_shape (attribute (L (av.element (S (codes "a")) (av.element (Null true) (av.element (N (codes "0")) (av.element (L av.no_elements) av.no_elements)))))) ≡ value (note_of no_fields))
    × (read note_shape (attribute (L (av.element (S (codes "a")) av.no_elements))) ≡ refused)
left_out_fields = (refl, refl, refl, refl, refl, refl)

-- what is left out is not written
written_without : written (note_of (field (codes "stars") (byte 7) no_fields)) ≡ Ok (M (member (codes "id") (S (codes "a")) (member (codes "stars") (N (codes "7")) no_members)))
unfolding digits
written_without = refl

-- ---- tagged enums

abbrev move_shape : Shape
move_shape = tagged (codes "kind") (tagged_variant (codes "Stop") (codes "Move") no_field_shapes (tagged_variant (codes "Turn") (codes "Move") (field_shape (codes "by") (integer u8) required (field_shape (codes "note") (option string) (left_out datum.none) no_field_shapes)) no_tagged))

abbrev turn_by_seven : Datum
turn_by_seven = datum.struct (codes "Move") (field (codes "kind") (datum.string (codes "Turn")) (field (codes "by") (byte 7) no_fields))

-- the tag may come after a field, and what is unknown is ignored; without a tag, or with an unknown name, a refusal; a tag that
-- is no text; a field that is missing; a variant that holds nothing; a list
tagged_enums : (read move_shape (attribute (M (member (codes "by") (N (codes "7")) (member (codes "kind") (S (codes "Turn")) no_members)))) ≡ value turn_by_seven)
    × (read move_shape (attribute (M (member (codes "by") (N (codes "7")) (member (codes "kind") (S (codes "Turn")) (member (codes "on") (S (codes "x")) no_members))))) ≡ value turn_by_seven)
    × (read move_shape (attribute (M (member (codes "by") (N (codes "7")) no_members))) ≡ refused)
    × (read move_shape (attribute (M (member (codes "kind") (S (codes "Jump")) no_members))) ≡ refused)
    × (read move_shape (attribute (M (member (codes "kind") (N (codes "1")) no_members))) ≡ fault expected_string)
    × (read move_shape (attribute (M (member (codes "kind") (S (codes "Turn")) no_members))) ≡ refused)
    × (read move_shape (attribute (M (member (codes "by") (N (codes "7")) (member (codes "kind") (S (codes "Stop")) no_members)))) ≡ value (datum.struct (codes "Move") (field (codes "kind") (datum.string (codes "Stop")) no_fields)))
    × (read move_shape (attribute (L (av.element (S (codes "Stop")) av.no_elements))) ≡ fault expected_map)
tagged_enums = (refl, refl, refl, refl, refl, refl, refl, refl)

tagged_written : written turn_by_seven ≡ Ok (M (member (codes "by") (N (codes "7")) (member (codes "kind") (S (codes "Turn")) no_members)))
unfolding digits
tagged_written = refl
