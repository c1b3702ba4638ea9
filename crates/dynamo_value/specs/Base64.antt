-- Byte strings in DynamoDB JSON: the text of the standard encoding of RFC 4648, padding included. No other spelling is read.
use Rattle.std.specs.Prelude.{ℕ, List, Result, codes}
use Rattle.std.specs.Result.{result_ok}
use Rattle.base64.specs.Engines.{standard}
use Rattle.base64.specs.GeneralPurpose.{encode_of, decode_of}
use Rattle.dynamo_value.specs.Refusal.{Refusal, begins, or_refuse}

abbrev pub base64_text : List ℕ → List ℕ
base64_text bytes = encode_of standard bytes

abbrev pub not_base64 : Refusal
not_base64 = begins (codes "Failed to decode base64: ")

-- the bytes of a text, or why there are none
abbrev pub bytes_of_base64 : List ℕ → Result (List ℕ) Refusal
bytes_of_base64 text = or_refuse not_base64 (result_ok (decode_of standard text))
