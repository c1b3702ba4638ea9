-- Plain JSON: the JSON value of a datum, by serde_json's own mapping of serde's data model, or its
-- fault. A byte string is an array of numbers. JSON has numbers of 64 bits: an integer that neither
-- a u64 nor an i64 holds is refused. In a list or a struct the first faulty element's or field's
-- fault is the fault; in a map the first faulty pair's, its key's before its value's. Of equal keys
-- the last value stays.
use Rattle.std.specs.Prelude.{ℕ, ℤ, pos, negsuc, ◌^◌, nat_lt, Bool, List, [], ◌∷◌, map, Result, Ok}
use Rattle.std.specs.Prelude.{Err, if◌then◌else◌, codes, encode_utf8}
use Rattle.serde_json.specs.Data as json
use Rattle.serde_json.specs.Data.{Data}
use Rattle.serde_json.specs.Find.{of_integer}
use Rattle.serde_json.specs.View.{items_of}
use Rattle.dynamo_value.specs.Fault.{Fault, message}
use Rattle.dynamo_value.specs.Steps.{◌>>=◌}
use Rattle.dynamo_ser.specs.Datum as datum
use Rattle.dynamo_ser.specs.Datum.{Datum}
use Rattle.dynamo_ser.specs.Key.{key_text}
use Rattle.dynamo_write.specs.Collect.{collect}

-- a u64 or an i64 holds the integer
abbrev pub in_64_bits : ℤ → Bool
in_64_bits (pos n) = nat_lt n (2 ^ 64)
in_64_bits (negsuc n) = nat_lt n (2 ^ 63)

abbrev pub number : ℤ → Result Data Fault
number z = if in_64_bits z then Ok (json.number (of_integer z)) else Err
    (message (codes "number out of range"))

abbrev pub byte_number : ℕ → Data
byte_number b = json.number (json.unsigned b)

abbrev pub members_of : List (List ℕ × Data) → json.Members
members_of [] = json.no_members
members_of (e ∷ es) = json.member e.0 e.1 (members_of es)

-- the object of these entries, in the order in which they were written
abbrev pub object_of_entries : List (List ℕ × Data) → Data
object_of_entries es = json.object (members_of (collect es))

-- the object of one member
abbrev pub one_member : List ℕ → Data → Data
one_member name j = json.object (json.member name j json.no_members)

abbrev mutual
  pub plain : Datum → Result Data Fault
  plain (datum.boolean b) = Ok (json.boolean b)
  plain (datum.integer kind z) = number z
  plain (datum.char c) = Ok (json.string (encode_utf8 c))
  plain (datum.string text) = Ok (json.string text)
  plain (datum.bytes bytes) = Ok (json.array (items_of (map byte_number bytes)))
  plain datum.none = Ok json.null
  plain datum.unit = Ok json.null
  plain (datum.unit_struct name) = Ok json.null
  plain (datum.some content) = plain content
  plain (datum.unit_variant variant) = Ok (json.string variant.name)
  plain (datum.newtype_struct name content) = plain content
  plain (datum.newtype_variant variant content) = plain content
      >>= λ j. Ok (one_member variant.name j)
  plain (datum.seq ds) = plain_elements ds >>= λ js. Ok (json.array js)
  plain (datum.tuple ds) = plain_elements ds >>= λ js. Ok (json.array js)
  plain (datum.tuple_struct name ds) = plain_elements ds >>= λ js. Ok (json.array js)
  plain (datum.tuple_variant variant ds) = plain_elements ds
      >>= λ js. Ok (one_member variant.name (json.array js))
  plain (datum.map ps) = plain_pairs ps >>= λ es. Ok (object_of_entries es)
  plain (datum.struct name fs) = plain_fields fs >>= λ es. Ok (object_of_entries es)
  plain (datum.struct_variant variant fs) = plain_fields fs
      >>= λ es. Ok (one_member variant.name (object_of_entries es))
  plain (datum.refuse text) = Err (message text)

  pub plain_elements : datum.Elements → Result json.Items Fault
  plain_elements datum.no_elements = Ok json.no_items
  plain_elements (datum.element d ds) = do
    j ← plain d
    js ← plain_elements ds
    Ok (json.item j js)

  pub plain_pairs : datum.Pairs → Result (List (List ℕ × Data)) Fault
  plain_pairs datum.no_pairs = Ok []
  plain_pairs (datum.pair k d ps) = do
    text ← key_text k
    j ← plain d
    es ← plain_pairs ps
    Ok ((text, j) ∷ es)

  pub plain_fields : datum.Fields → Result (List (List ℕ × Data)) Fault
  plain_fields datum.no_fields = Ok []
  plain_fields (datum.field name d fs) = do
    j ← plain d
    es ← plain_fields fs
    Ok ((name, j) ∷ es)
