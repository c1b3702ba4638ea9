-- The attribute value that a JSON value stands for, by what was read, or why there is none.
use Rattle.std.specs.Prelude.{◌≡◌, Result, Ok, Err}
use Rattle.serde_json.specs.Data.{Data}
use Rattle.dynamo_value.specs.Av.{Av}
use Rattle.dynamo_value.specs.Refusal.{Refused, refusal_in}
use Rattle.dynamo_json.specs.Json.{json_of}
use Rattle.dynamo_json.specs.Parsed.{parsed}
use Rattle.tool_commands.specs.Failed.{Failed, not_json, faulty, read_failed}

-- It is the one that reading gives, and the JSON value is its own; or a fault that the refusal
-- names. Where there is no JSON value, the reason is handed on.
abbrev pub Stands : Result Data Failed → Result Av Failed → Type 0
Stands (Err failed) answer = answer ≡ Err failed
Stands (Ok json) (Ok a) = (parsed json ≡ Ok a) × (json ≡ json_of a)
Stands (Ok json) (Err (faulty fault)) = Refused (refusal_in (parsed json)) fault
Stands (Ok json) (Err not_json) = ⊥
Stands (Ok json) (Err read_failed) = ⊥
