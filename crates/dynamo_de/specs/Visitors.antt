-- What the types of the library claim, and what they take of what they are shown. What they do not claim they refuse.
use Rattle.std.specs.Prelude.{ℕ, Bool, true, false, chars, List, [], ◌∷◌, Option as Maybe, Some as Just, None as Nothing, Result, Ok, Err, if◌then◌else◌, ⊤}
use Rattle.std.specs.Str.{is_utf8}
use Rattle.dynamo_value.specs.Fault.{Fault}
use Rattle.dynamo_de.specs.Answer as answer
use Rattle.dynamo_de.specs.Answer.{Answer, value_or}
use Rattle.dynamo_de.specs.Showing as showing
use Rattle.dynamo_de.specs.Showing.{Showing}
use Rattle.dynamo_de.specs.Source.{Source, Entry}
use Rattle.dynamo_de.specs.declared.kind.Kind.{Kind}
use Rattle.dynamo_de.specs.declared.kind.Kind.TheVariants as kind

abbrev pub claims_bool : Kind → Bool
claims_bool kind.Bool = true
claims_bool _ = false

abbrev pub take_bool : Showing → Answer Bool
take_bool (showing.boolean b) = answer.value b
take_bool _ = answer.refused

abbrev pub claims_char : Kind → Bool
claims_char kind.Char = true
claims_char kind.Str = true
claims_char _ = false

abbrev pub the_only : List ℕ → Maybe ℕ
the_only (c ∷ []) = Just c
the_only _ = Nothing

-- the character of a text that has one alone
abbrev pub one_char : List ℕ → Maybe ℕ
one_char t = the_only (chars t)

abbrev pub take_char : Showing → Answer ℕ
take_char (showing.char c) = answer.value c
take_char (showing.text t) = value_or (one_char t) answer.refused
take_char _ = answer.refused

-- texts and byte strings
abbrev pub claims_texts : Kind → Bool
claims_texts kind.Str = true
claims_texts kind.Bytes = true
claims_texts _ = false

abbrev pub take_string : Showing → Answer (List ℕ)
take_string (showing.text t) = answer.value t
take_string (showing.bytes bytes) = if is_utf8 bytes then answer.value bytes else answer.refused
take_string _ = answer.refused

abbrev pub take_bytes : Showing → Answer (List ℕ)
take_bytes (showing.text t) = answer.value t
take_bytes (showing.bytes bytes) = answer.value bytes
take_bytes _ = answer.refused

abbrev pub claims_unit : Kind → Bool
claims_unit kind.Unit = true
claims_unit _ = false

abbrev pub take_unit : Showing → Answer ⊤
take_unit showing.unit = answer.value tt
take_unit _ = answer.refused

abbrev pub claims_option : Kind → Bool
claims_option kind.None = true
claims_option kind.Unit = true
claims_option kind.Some = true
claims_option _ = false

abbrev pub take_content : Showing → Answer (Maybe Source)
take_content showing.none = answer.value Nothing
take_content showing.unit = answer.value Nothing
take_content (showing.some s) = answer.value (Just s)
take_content _ = answer.refused

abbrev pub claims_seq : Kind → Bool
claims_seq kind.Seq = true
claims_seq _ = false

abbrev pub take_elements : Showing → Answer (List Source)
take_elements (showing.sequence ss) = answer.value ss
take_elements _ = answer.refused

abbrev pub claims_map : Kind → Bool
claims_map kind.Map = true
claims_map _ = false

abbrev pub take_entries : Showing → Answer (List Entry)
take_entries (showing.entries es) = answer.value es
take_entries _ = answer.refused

-- ---- for types that are read by hand

abbrev pub claims_str : Kind → Bool
claims_str kind.Str = true
claims_str _ = false

abbrev pub take_identifier : Showing → Answer (List ℕ)
take_identifier (showing.text t) = answer.value t
take_identifier _ = answer.refused

abbrev pub claims_newtype : Kind → Bool
claims_newtype kind.NewtypeStruct = true
claims_newtype _ = false

abbrev pub take_newtype : Showing → Answer Source
take_newtype (showing.newtype s) = answer.value s
take_newtype _ = answer.refused

-- a struct from a map and from a sequence
abbrev pub claims_struct : Kind → Bool
claims_struct kind.Seq = true
claims_struct kind.Map = true
claims_struct _ = false

-- the fields of a struct, by their names or in order
pub data Parts : Type 0 where
  by_name : List Entry → Parts
  in_order : List Source → Parts

abbrev pub take_parts : Showing → Answer Parts
take_parts (showing.entries es) = answer.value (by_name es)
take_parts (showing.sequence ss) = answer.value (in_order ss)
take_parts _ = answer.refused

abbrev pub claims_enum : Kind → Bool
claims_enum kind.Enum = true
claims_enum _ = false

abbrev pub or_its_fault : {A : Type 0} → Result A Fault → Answer A
or_its_fault (Ok x) = answer.value x
or_its_fault (Err f) = answer.fault f

-- the name and the content of a variant
abbrev pub take_variant : Showing → Answer (List ℕ × Maybe Source)
take_variant (showing.variant v) = or_its_fault v
take_variant _ = answer.refused
