-- What a JSON value tells: null is a unit, an array a sequence, an object a map in the order of its keys. A whole number is a
-- u64, or an i64 where it is negative; a float is refused.
use Rattle.std.specs.Prelude.{pos, codes}
use Rattle.serde_json.specs.Data as json
use Rattle.serde_json.specs.Data.{Data, Num}
use Rattle.dynamo_ser.specs.Datum as datum
use Rattle.dynamo_ser.specs.Datum.{Datum, Elements, Pairs}

abbrev pub number_datum : Num → Datum
number_datum (json.unsigned n) = datum.integer datum.u64 (pos n)
number_datum (json.negative z) = datum.integer datum.i64 z
number_datum (json.float x) = datum.refuse (codes "JSON floats are not supported")

abbrev mutual
  pub json_datum : Data → Datum
  json_datum json.null = datum.unit
  json_datum (json.boolean b) = datum.boolean b
  json_datum (json.number n) = number_datum n
  json_datum (json.string text) = datum.string text
  json_datum (json.array js) = datum.seq (json_elements js)
  json_datum (json.object ms) = datum.map (json_pairs ms)

  pub json_elements : json.Items → Elements
  json_elements json.no_items = datum.no_elements
  json_elements (json.item j js) = datum.element (json_datum j) (json_elements js)

  pub json_pairs : json.Members → Pairs
  json_pairs json.no_members = datum.no_pairs
  json_pairs (json.member name j ms) = datum.pair (datum.string name) (json_datum j) (json_pairs ms)

-- a float takes memory for the text of its refusal
abbrev pub float_wants : Num → Type 0
float_wants (json.float x) = Unit {0}
float_wants _ = ⊥

abbrev pub json_wants : Data → Type 0
json_wants (json.number n) = float_wants n
json_wants _ = ⊥
