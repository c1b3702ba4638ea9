-- The text of a map key. Booleans, integers, characters, texts and unit variants have one, and so has a newtype over one
-- of these; any other datum is no key, whatever it holds.
use Rattle.std.specs.Prelude.{ℕ, List, Bool, true, false, Result, Ok, Err, codes, encode_utf8}
use Rattle.std.specs.Fmt.{signed_decimal}
use Rattle.dynamo_value.specs.Fault.{Fault, message, key_must_be_a_string}
use Rattle.dynamo_ser.specs.Datum as datum
use Rattle.dynamo_ser.specs.Datum.{Datum}

abbrev pub bool_text : Bool → List ℕ
bool_text true = codes "true"
bool_text false = codes "false"

abbrev pub key_text : Datum → Result (List ℕ) Fault
key_text (datum.boolean b) = Ok (bool_text b)
key_text (datum.integer kind z) = Ok (signed_decimal z)
key_text (datum.char c) = Ok (encode_utf8 c)
key_text (datum.string text) = Ok text
key_text (datum.unit_variant variant) = Ok variant.name
key_text (datum.newtype_struct name content) = key_text content
key_text (datum.refuse text) = Err (message text)
key_text _ = Err key_must_be_a_string
