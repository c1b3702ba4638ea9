-- What the types read from each source: what they take of what it shows.
use Rattle.std.specs.Prelude.{ℕ, ℤ, Bool, List, [], ◌∷◌, Option, Ok, Err, if◌then◌else◌, ⊤}
use Rattle.dynamo_value.specs.Av as av
use Rattle.dynamo_value.specs.Fault.{failed_to_parse_int, expected_num, expected_char}
use Rattle.dynamo_value.specs.Integer.{IntegerKind}
use Rattle.dynamo_de.specs.Answer as answer
use Rattle.dynamo_de.specs.Answer.{Answer, value_or}
use Rattle.dynamo_de.specs.Number.{parse}
use Rattle.dynamo_de.specs.Shown.{Shown, shown}
use Rattle.dynamo_de.specs.Showing as showing
use Rattle.dynamo_de.specs.Showing.{Showing}
use Rattle.dynamo_de.specs.Source.{Source, attribute, key_text, number_text, plain_text, byte_string, Entry}
use Rattle.dynamo_de.specs.Takes.{Way, char_ways, ways}
use Rattle.dynamo_de.specs.Visitors.{Parts, claims_bool, take_bool, claims_char, take_char, claims_texts, take_string, take_bytes, claims_unit, take_unit, claims_option, take_content, claims_seq, take_elements, claims_map, take_entries, claims_str, take_identifier, claims_newtype, take_newtype, claims_struct, take_parts, claims_enum, take_variant}
use Rattle.dynamo_de.specs.declared.kind.Kind.{Kind}
use Rattle.dynamo_de.specs.declared.request.Request.{Request}
use Rattle.dynamo_de.specs.declared.request.Request.TheVariants as request

-- what is taken of the first that is claimed, else a refusal by a message
abbrev pub first_claimed : {A : Type 0} → (Kind → Bool) → (Showing → Answer A) → List Way → Answer A
first_claimed claims take [] = answer.refused
first_claimed claims take (w ∷ ws) = if claims w.0 then take w.1 else first_claimed claims take ws

-- of several characters none is taken
abbrev pub not_alone : {A : Type 0} → Answer A → Answer A
not_alone (Ok x) = answer.fault expected_char
not_alone (Err r) = Err r

abbrev pub taken_of : {A : Type 0} → (Kind → Bool) → (Showing → Answer A) → Showing → Answer A
taken_of claims take (showing.first_char c) = not_alone (first_claimed claims take (char_ways c))
taken_of claims take s = first_claimed claims take (ways s)

-- what a visitor that claims and takes so gives, or the fault that comes in its place
abbrev pub taken : {A : Type 0} → (Kind → Bool) → (Showing → Answer A) → Shown → Answer A
taken claims take (Ok s) = taken_of claims take s
taken claims take (Err f) = answer.fault f

abbrev pub taken_from : {A : Type 0} → (Kind → Bool) → (Showing → Answer A) → Request → Source → Answer A
taken_from claims take r s = taken claims take (shown r s)

-- ---- scalars

abbrev pub read_bool : Source → Answer Bool
read_bool s = taken_from claims_bool take_bool request.Bool s

abbrev pub read_integer : IntegerKind → Source → Answer ℤ
read_integer k (attribute (av.N t)) = value_or (parse k t) (answer.fault (failed_to_parse_int t))
read_integer k (attribute _) = answer.fault expected_num
read_integer k (key_text t) = value_or (parse k t) (answer.fault expected_num)
read_integer k (number_text t) = value_or (parse k t) (answer.fault (failed_to_parse_int t))
read_integer k (plain_text t) = answer.refused
read_integer k (byte_string bytes) = answer.refused

abbrev pub read_char : Source → Answer ℕ
read_char s = taken_from claims_char take_char request.Char s

abbrev pub read_string : Source → Answer (List ℕ)
read_string s = taken_from claims_texts take_string request.String s

abbrev pub read_bytes : Source → Answer (List ℕ)
read_bytes s = taken_from claims_texts take_bytes request.ByteBuf s

abbrev pub read_unit : Source → Answer ⊤
read_unit s = taken_from claims_unit take_unit request.Unit s

-- the name of a field or of a variant
abbrev pub read_identifier : Source → Answer (List ℕ)
read_identifier s = taken_from claims_str take_identifier request.Identifier s

abbrev pub read_unit_struct : Source → Answer ⊤
read_unit_struct s = taken_from claims_unit take_unit request.UnitStruct s

-- ---- types with content

-- the content of an option; `Null(true)` alone is none
abbrev pub read_content : Source → Answer (Option Source)
read_content s = taken_from claims_option take_content request.Option s

-- the elements of a sequence; tuples and tuple structs are shown as sequences are
abbrev pub read_elements : Source → Answer (List Source)
read_elements s = taken_from claims_seq take_elements request.Seq s

abbrev pub read_entries : Source → Answer (List Entry)
read_entries s = taken_from claims_map take_entries request.Map s

-- A newtype reads its content from the same source. A plain text, a number and a byte string show no newtype.
abbrev pub read_newtype : Source → Answer Source
read_newtype s = taken_from claims_newtype take_newtype request.NewtypeStruct s

-- a struct isn't read from a set
abbrev pub read_parts : Source → Answer Parts
read_parts s = taken_from claims_struct take_parts request.Struct s

-- the name and the content of a variant
abbrev pub read_variant : Source → Answer (List ℕ × Option Source)
read_variant s = taken_from claims_enum take_variant request.Enum s
