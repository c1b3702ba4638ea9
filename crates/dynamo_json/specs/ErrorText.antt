-- The printed text of why a text of DynamoDB JSON isn't read.
use Rattle.std.specs.Prelude.{ℕ, List, Option, None}
use Rattle.dynamo_value.specs.KindText.{kind_text}
use Rattle.dynamo_json.specs.declared.text_error.TextError.{TextError}

-- how serde_json says what is no JSON isn't promised
abbrev pub error_text : TextError → Option (List ℕ)
error_text (TextError.NotJson error) = None
error_text (TextError.Fault error) = kind_text error
