-- What an attribute value tells: its DynamoDB JSON, as data. It is a map of one pair, whose key is the prefix of its kind: a
-- number and a string tell a string, a boolean and null a boolean, a byte string its base64 text, a map a map, a list and the
-- three sets a sequence. An item tells the map of its attributes. The entries of a map come in the order that it happens to
-- keep, which nobody chose.
use Rattle.std.specs.Prelude.{ℕ, List, map, Vec, String, string_bytes}
use Rattle.std.specs.declared.alloc.Global.{Global}
use Rattle.dynamo_value.specs.Base64.{base64_text}
use Rattle.dynamo_value.specs.Item.{map_of}
use Rattle.dynamo_value.specs.Prefix as prefix
use Rattle.dynamo_value.specs.Prefix.{Prefix, prefix_text}
use Rattle.dynamo_value.specs.declared.attribute_value.AttributeValue.{AttributeValue, fold-AttributeValue}
use Rattle.dynamo_value.specs.declared.attribute_value.AttributeValue.TheOpen.{AttributeValue-F}
use Rattle.dynamo_value.specs.declared.item.Item.{Item}
use Rattle.dynamo_ser.specs.Datum as datum
use Rattle.dynamo_ser.specs.Datum.{Datum}

-- the map of one pair, whose key is a prefix
abbrev pub under : Prefix → Datum → Datum
under p content = datum.map (datum.pair (datum.string (prefix_text p)) content datum.no_pairs)

abbrev pub text_datum : String Global → Datum
text_datum text = datum.string (string_bytes text)

abbrev pub bytes_datum : Vec ℕ Global → Datum
bytes_datum bytes = datum.string (base64_text bytes.items)

abbrev pub seq_of : List Datum → Datum
seq_of ds = datum.seq (datum.elements_of ds)

abbrev pub map_of_pairs : List (Datum × Datum) → Datum
map_of_pairs es = datum.map (datum.pairs_of es)

-- one level, where each value inside is told already
abbrev pub attribute_step : AttributeValue-F Datum → Datum
attribute_step (AttributeValue-F.N text) = under prefix.N (text_datum text)
attribute_step (AttributeValue-F.S text) = under prefix.S (text_datum text)
attribute_step (AttributeValue-F.Bool b) = under prefix.Bool (datum.boolean b)
attribute_step (AttributeValue-F.B bytes) = under prefix.B (bytes_datum bytes)
attribute_step (AttributeValue-F.Null b) = under prefix.Null (datum.boolean b)
attribute_step (AttributeValue-F.M h) = under prefix.M (map_of_pairs (map (λ e. (text_datum e.0, e.1)) h.entries))
attribute_step (AttributeValue-F.L values) = under prefix.L (seq_of values.items)
attribute_step (AttributeValue-F.Ss set) = under prefix.Ss (seq_of (map text_datum set.items))
attribute_step (AttributeValue-F.Ns set) = under prefix.Ns (seq_of (map text_datum set.items))
attribute_step (AttributeValue-F.Bs set) = under prefix.Bs (seq_of (map bytes_datum set.items))

abbrev pub attribute_datum : AttributeValue → Datum
attribute_datum = fold-AttributeValue Datum attribute_step

abbrev pub item_datum : Item → Datum
item_datum item = map_of_pairs (map (λ e. (text_datum e.0, attribute_datum e.1)) (map_of item).entries)
