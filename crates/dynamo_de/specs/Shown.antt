-- What a source shows at each request, or the fault that it meets.
use Rattle.std.specs.Prelude.{ℕ, ℤ, true, false, codes, bytes_eq, chars, List, [], ◌∷◌, Option as Maybe, Some as Just, None as Nothing, Result, Ok, Err, if◌then◌else◌}
use Rattle.dynamo_value.specs.Av as av
use Rattle.dynamo_value.specs.Av.{Av}
use Rattle.dynamo_value.specs.Fault.{Fault, expected_string, expected_map, expected_seq, expected_num, expected_bool, expected_char, expected_unit, expected_unit_struct, expected_enum, expected_bytes, failed_to_parse_int, failed_to_parse_float}
use Rattle.dynamo_value.specs.Integer.{IntegerKind, i64, u64}
use Rattle.dynamo_value.specs.IntegerTypes.{kind_of}
use Rattle.dynamo_de.specs.Number.{parse, is_float_text}
use Rattle.dynamo_de.specs.Showing as showing
use Rattle.dynamo_de.specs.Showing.{Showing, only_entry}
use Rattle.dynamo_de.specs.Source.{Source, attribute, key_text, number_text, plain_text, byte_string, entries_of, values_of, each}
use Rattle.dynamo_de.specs.declared.request.Request.{Request}
use Rattle.dynamo_de.specs.declared.request.Request.TheVariants.{Any, Bool as AskBool, Integer, Char, Str, String, Bytes, ByteBuf, Option, Unit, UnitStruct, NewtypeStruct, Seq, Tuple, TupleStruct, Map, Struct, Enum, Identifier, IgnoredAny}

abbrev pub Shown : Type 0
Shown = Result Showing Fault

-- ---- numbers

abbrev pub or_fault : IntegerKind → Maybe ℤ → Fault → Shown
or_fault k Nothing otherwise = Err otherwise
or_fault k (Just z) otherwise = Ok (showing.integer k z)

-- an integer text of the kind, or the fault
abbrev pub integer_shown : IntegerKind → Fault → List ℕ → Shown
integer_shown k otherwise t = or_fault k (parse k t) otherwise

abbrev pub float_shown : List ℕ → Shown
float_shown t = if is_float_text t then Ok (showing.number_text t) else Err (failed_to_parse_float t)

abbrev pub unsigned_or_float : Maybe ℤ → List ℕ → Shown
unsigned_or_float Nothing t = float_shown t
unsigned_or_float (Just z) t = Ok (showing.integer u64 z)

abbrev pub signed_or_other : Maybe ℤ → List ℕ → Shown
signed_or_other Nothing t = unsigned_or_float (parse u64 t) t
signed_or_other (Just z) t = Ok (showing.integer i64 z)

-- A number whose kind nobody asks for: as an i64 where it is one, else as a u64, else as the text of a float. It is never
-- shown as an integer of 128 bits.
abbrev pub number_shown : List ℕ → Shown
number_shown t = signed_or_other (parse i64 t) t

-- ---- an attribute value, kind by kind

abbrev pub any_shown : Av → Shown
any_shown (av.N t) = number_shown t
any_shown (av.S t) = Ok (showing.text t)
any_shown (av.Boolean b) = Ok (showing.boolean b)
any_shown (av.B bytes) = Ok (showing.bytes bytes)
any_shown (av.Null true) = Ok showing.unit
any_shown (av.Null false) = Err expected_unit
any_shown (av.M ms) = Ok (showing.entries (entries_of ms))
any_shown (av.L as') = Ok (showing.sequence (values_of as'))
any_shown (av.Ss ts) = Ok (showing.sequence (each plain_text ts))
any_shown (av.Ns ts) = Ok (showing.sequence (each number_text ts))
any_shown (av.Bs ts) = Ok (showing.sequence (each byte_string ts))

abbrev pub num_shown : IntegerKind → Av → Shown
num_shown k (av.N t) = integer_shown k (failed_to_parse_int t) t
num_shown k _ = Err expected_num

abbrev pub bool_shown : Av → Shown
bool_shown (av.Boolean b) = Ok (showing.boolean b)
bool_shown _ = Err expected_bool

abbrev pub chars_shown : List ℕ → Shown
chars_shown [] = Err expected_char
chars_shown (c ∷ []) = Ok (showing.char c)
chars_shown (c ∷ d ∷ cs) = Ok (showing.first_char c)

abbrev pub char_shown : Av → Shown
char_shown (av.S t) = chars_shown (chars t)
char_shown _ = Err expected_char

abbrev pub text_shown : Av → Shown
text_shown (av.S t) = Ok (showing.text t)
text_shown _ = Err expected_string

abbrev pub bytes_shown : Av → Shown
bytes_shown (av.B bytes) = Ok (showing.bytes bytes)
bytes_shown _ = Err expected_bytes

-- `Null(false)` is a content like any other
abbrev pub option_shown : Av → Shown
option_shown (av.Null true) = Ok showing.none
option_shown a = Ok (showing.some (attribute a))

abbrev pub null_shown : Fault → Av → Shown
null_shown otherwise (av.Null true) = Ok showing.unit
null_shown otherwise _ = Err otherwise

abbrev pub seq_shown : Av → Shown
seq_shown (av.L as') = Ok (showing.sequence (values_of as'))
seq_shown (av.Ss ts) = Ok (showing.sequence (each plain_text ts))
seq_shown (av.Ns ts) = Ok (showing.sequence (each number_text ts))
seq_shown (av.Bs ts) = Ok (showing.sequence (each byte_string ts))
seq_shown _ = Err expected_seq

abbrev pub map_shown : Av → Shown
map_shown (av.M ms) = Ok (showing.entries (entries_of ms))
map_shown _ = Err expected_map

-- a struct isn't read from a set
abbrev pub struct_shown : Av → Shown
struct_shown (av.M ms) = Ok (showing.entries (entries_of ms))
struct_shown (av.L as') = Ok (showing.sequence (values_of as'))
struct_shown _ = Err expected_map

abbrev pub named : List ℕ → Showing
named t = showing.variant (Ok (t, Nothing))

abbrev pub enum_shown : Av → Shown
enum_shown (av.S t) = Ok (named t)
enum_shown (av.M ms) = Ok (showing.variant (only_entry ms))
enum_shown _ = Err expected_enum

abbrev pub attribute_shown : Request → Av → Shown
attribute_shown Any a = any_shown a
attribute_shown AskBool a = bool_shown a
attribute_shown (Integer k) a = num_shown (kind_of k) a
attribute_shown Char a = char_shown a
attribute_shown Str a = text_shown a
attribute_shown String a = text_shown a
attribute_shown Bytes a = bytes_shown a
attribute_shown ByteBuf a = bytes_shown a
attribute_shown Option a = option_shown a
attribute_shown Unit a = null_shown expected_unit a
attribute_shown UnitStruct a = null_shown expected_unit_struct a
attribute_shown NewtypeStruct a = Ok (showing.newtype (attribute a))
attribute_shown Seq a = seq_shown a
attribute_shown Tuple a = seq_shown a
attribute_shown TupleStruct a = seq_shown a
attribute_shown Map a = map_shown a
attribute_shown Struct a = struct_shown a
attribute_shown Enum a = enum_shown a
attribute_shown Identifier a = text_shown a
attribute_shown IgnoredAny a = any_shown a

-- ---- what is inside of one

-- an element of a set of numbers
abbrev pub number_text_shown : Request → List ℕ → Shown
number_text_shown (Integer k) t = integer_shown (kind_of k) (failed_to_parse_int t) t
number_text_shown _ t = number_shown t

abbrev pub bool_key_shown : List ℕ → Shown
bool_key_shown t = if bytes_eq t (codes "true") then Ok (showing.boolean true) else if bytes_eq t (codes "false") then Ok (showing.boolean false) else Err expected_string

-- the key of a map
abbrev pub key_shown : Request → List ℕ → Shown
key_shown AskBool t = bool_key_shown t
key_shown (Integer k) t = integer_shown (kind_of k) expected_num t
key_shown NewtypeStruct t = Ok (showing.newtype (key_text t))
key_shown Enum t = Ok (named t)
key_shown _ t = Ok (showing.text t)

-- an element of a set of strings, and the name of a variant
abbrev pub plain_text_shown : Request → List ℕ → Shown
plain_text_shown Enum t = Ok (named t)
plain_text_shown _ t = Ok (showing.text t)

abbrev pub shown : Request → Source → Shown
shown r (attribute a) = attribute_shown r a
shown r (key_text t) = key_shown r t
shown r (number_text t) = number_text_shown r t
shown r (plain_text t) = plain_text_shown r t
shown r (byte_string bytes) = Ok (showing.bytes bytes)
