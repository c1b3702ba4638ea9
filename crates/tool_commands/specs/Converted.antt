-- What `dynamo` and `plain` answer: plain JSON becomes DynamoDB JSON, and back.
use Rattle.std.specs.Prelude.{◌≡◌, ◌⊎◌, ℕ, List, Result, Ok, Err}
use Rattle.serde_json.specs.Data.{Data}
use Rattle.dynamo_value.specs.Av.{Av}
use Rattle.dynamo_value.specs.Fault.{out_of_memory}
use Rattle.dynamo_value.specs.Refusal.{Refused, SaysIf, refusal_in}
use Rattle.dynamo_ser.specs.JsonValue.{json_datum}
use Rattle.dynamo_write.specs.Written.{written}
use Rattle.dynamo_de.specs.Answer.{value}
use Rattle.dynamo_de.specs.ReadJson.{read_value}
use Rattle.dynamo_json.specs.Json.{json_of}
use Rattle.dynamo_json.specs.Parsed.{parsed}
use Rattle.tool_commands.specs.Failed.{Failed, not_json, faulty, read_failed}
use Rattle.tool_commands.specs.JsonText.{json_line}

-- `dynamo`: the attribute value that the JSON value is written as, in its DynamoDB JSON; or the
-- fault of writing it. Where there is no JSON value, the reason is handed on.
abbrev pub ToDynamo : Result Data Failed → Result (List ℕ) Failed → Type 0
ToDynamo (Err failed) answer = answer ≡ Err failed
ToDynamo (Ok json) (Ok text) = (a : Av) × (written (json_datum json) ≡ Ok a)
    × (text ≡ json_line (json_of a))
ToDynamo (Ok json) (Err (faulty fault)) = (fault ≡ out_of_memory)
    ⊎ (written (json_datum json) ≡ Err fault)
ToDynamo (Ok json) (Err not_json) = ⊥
ToDynamo (Ok json) (Err read_failed) = ⊥

-- The line of the JSON value that an attribute value is read as, or a fault that reading it as a
-- JSON value meets.
abbrev pub ReadsPlain : Av → Result (List ℕ) Failed → Type 0
ReadsPlain a (Ok text) = (plain : Data) × (read_value a ≡ value plain) × (text ≡ json_line plain)
ReadsPlain a (Err (faulty fault)) = Refused (refusal_in (read_value a)) fault
ReadsPlain a (Err not_json) = ⊥
ReadsPlain a (Err read_failed) = ⊥

-- `plain`: the JSON value that the attribute value is read as; or a fault that the refusal of
-- DynamoDB JSON names, or that reading the attribute value as a JSON value meets.
abbrev pub ToPlain : Result Data Failed → Result (List ℕ) Failed → Type 0
ToPlain (Err failed) answer = answer ≡ Err failed
ToPlain (Ok json) (Ok text) = (a : Av) × (plain : Data) × (parsed json ≡ Ok a)
    × (read_value a ≡ value plain) × (text ≡ json_line plain)
ToPlain (Ok json) (Err (faulty fault)) = Refused (refusal_in (parsed json)) fault
    ⊎ ((a : Av) × (parsed json ≡ Ok a) × SaysIf (refusal_in (read_value a)) fault)
ToPlain (Ok json) (Err not_json) = ⊥
ToPlain (Ok json) (Err read_failed) = ⊥
