-- What a JSON value reads from each source, at every depth: a boolean, an integer of 64 bits or fewer, a character or a text,
-- none or a unit as null, the content of an option, a sequence as an array, a map as an object. Any other is refused by a
-- message; that is a number that no 64 bits hold, and a byte string.
use Rattle.std.specs.Prelude.{ℕ, ℤ, true, false, List, [], ◌∷◌, map, Option, Some, None, Ok, Err, if◌then◌else◌, encode_utf8}
use Rattle.serde_json.specs.Data as json
use Rattle.serde_json.specs.Data.{Data, put}
use Rattle.serde_json.specs.Find.{of_integer}
use Rattle.serde_json.specs.View.{items_of}
use Rattle.dynamo_value.specs.Av as av
use Rattle.dynamo_value.specs.Av.{Av}
use Rattle.dynamo_value.specs.Fault.{failed_to_parse_float, expected_unit}
use Rattle.dynamo_value.specs.Integer.{IntegerKind, i64, i128, u64, u128}
use Rattle.dynamo_de.specs.Answer as answer
use Rattle.dynamo_de.specs.Answer.{Answer}
use Rattle.dynamo_value.specs.Steps.{◌>>=◌}
use Rattle.dynamo_de.specs.Number.{parse, is_float_text}
use Rattle.dynamo_de.specs.Shown.{Shown}
use Rattle.dynamo_de.specs.Showing as showing
use Rattle.dynamo_de.specs.Showing.{Showing}
use Rattle.dynamo_de.specs.Source.{Source, attribute, key_text, number_text, plain_text, byte_string, Entry}

abbrev pub number : ℤ → Data
number z = json.number (of_integer z)

abbrev pub number_or : Option ℤ → Answer Data → Answer Data
number_or (Some z) otherwise = answer.value (number z)
number_or None otherwise = otherwise

-- as an i64 where it is one, else as a u64
abbrev pub read_number : List ℕ → Answer Data
read_number t = number_or (parse i64 t) (number_or (parse u64 t) (if is_float_text t then answer.refused else answer.fault (failed_to_parse_float t)))

abbrev pub read_numbers : List (List ℕ) → Answer json.Items
read_numbers [] = answer.value json.no_items
read_numbers (t ∷ ts) = do
  j ← read_number t
  js ← read_numbers ts
  answer.value (json.item j js)

-- no byte string is read
abbrev pub read_blobs : List (List ℕ) → Answer json.Items
read_blobs [] = answer.value json.no_items
read_blobs (b ∷ bs) = answer.refused

-- the members are put in turn, in ascending order of the bytes of their names
abbrev mutual
  pub read_value : Av → Answer Data
  read_value (av.N t) = read_number t
  read_value (av.S t) = answer.value (json.string t)
  read_value (av.Boolean b) = answer.value (json.boolean b)
  read_value (av.B bytes) = answer.refused
  read_value (av.Null true) = answer.value json.null
  read_value (av.Null false) = answer.fault expected_unit
  read_value (av.M ms) = read_members json.no_members ms >>= λ js. answer.value (json.object js)
  read_value (av.L as') = read_elements as' >>= λ js. answer.value (json.array js)
  read_value (av.Ss ts) = answer.value (json.array (items_of (map json.string ts)))
  read_value (av.Ns ts) = read_numbers ts >>= λ js. answer.value (json.array js)
  read_value (av.Bs bs) = read_blobs bs >>= λ js. answer.value (json.array js)

  pub read_elements : av.Elements → Answer json.Items
  read_elements av.no_elements = answer.value json.no_items
  read_elements (av.element a as') = do
    j ← read_value a
    js ← read_elements as'
    answer.value (json.item j js)

  -- after the members that are there already
  pub read_members : json.Members → av.Members → Answer json.Members
  read_members so_far av.no_members = answer.value so_far
  read_members so_far (av.member t a ms) = do
    j ← read_value a
    read_members (put t j so_far) ms

abbrev pub read_json : Source → Answer Data
read_json (attribute a) = read_value a
read_json (key_text t) = answer.value (json.string t)
read_json (number_text t) = read_number t
read_json (plain_text t) = answer.value (json.string t)
read_json (byte_string bytes) = answer.refused

-- ---- level by level

abbrev pub read_sources : List Source → Answer json.Items
read_sources [] = answer.value json.no_items
read_sources (s ∷ ss) = do
  j ← read_json s
  js ← read_sources ss
  answer.value (json.item j js)

abbrev pub read_entries : json.Members → List Entry → Answer json.Members
read_entries so_far [] = answer.value so_far
read_entries so_far (e ∷ es) = do
  j ← read_value e.1
  read_entries (put e.0 j so_far) es

-- an integer of 64 bits or fewer
abbrev pub narrow : IntegerKind → ℤ → Answer Data
narrow i128 z = answer.refused
narrow u128 z = answer.refused
narrow kind z = answer.value (number z)

-- What a scalar that is shown is read as. Any other showing is refused.
abbrev pub read_scalar : Showing → Answer Data
read_scalar (showing.boolean b) = answer.value (json.boolean b)
read_scalar (showing.integer kind z) = narrow kind z
read_scalar (showing.char c) = answer.value (json.string (encode_utf8 c))
read_scalar (showing.text t) = answer.value (json.string t)
read_scalar showing.none = answer.value json.null
read_scalar showing.unit = answer.value json.null
read_scalar _ = answer.refused

-- What is read of what is shown: what lies inside, level by level, and else the scalar.
abbrev pub read_shown : Shown → Answer Data
read_shown (Err f) = answer.fault f
read_shown (Ok (showing.some s)) = read_json s
read_shown (Ok (showing.sequence ss)) = read_sources ss >>= λ js. answer.value (json.array js)
read_shown (Ok (showing.entries es)) = read_entries json.no_members es >>= λ ms. answer.value (json.object ms)
read_shown (Ok scalar) = read_scalar scalar
