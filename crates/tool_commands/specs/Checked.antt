-- What `check` answers: DynamoDB JSON of one attribute value is printed in its compact form.
use Rattle.std.specs.Prelude.{◌≡◌, ℕ, List, None, Result, Ok, Err}
use Rattle.serde_json.specs.Data.{Data}
use Rattle.dynamo_value.specs.Refusal.{Refused, refusal_in}
use Rattle.dynamo_json.specs.Parsed.{parsed}
use Rattle.tool_commands.specs.Failed.{Failed, not_json, faulty, read_failed}
use Rattle.tool_commands.specs.JsonText.{json_line}

-- What is answered to a JSON value: its own line, where reading it as an attribute value refuses
-- nothing; else a fault that the refusal names. Where there is no JSON value, the reason is handed
-- on.
abbrev pub ChecksJson : Result Data Failed → Result (List ℕ) Failed → Type 0
ChecksJson (Err failed) answer = answer ≡ Err failed
ChecksJson (Ok json) (Ok text) = (refusal_in (parsed json) ≡ None) × (text ≡ json_line json)
ChecksJson (Ok json) (Err (faulty fault)) = Refused (refusal_in (parsed json)) fault
ChecksJson (Ok json) (Err not_json) = ⊥
ChecksJson (Ok json) (Err read_failed) = ⊥
