-- JSON texts: what was read as a JSON value, and the line that a JSON value is printed as.
use Rattle.std.specs.Prelude.{◌≡◌, ℕ, List, [], ◌∷◌, ◌++◌, Some, Result, Ok, Err, IsUtf8}
use Rattle.serde_json.specs.Data.{Data}
use Rattle.serde_json.specs.Read.{read}
use Rattle.serde_json.specs.Written.{compact_text}
use Rattle.dynamo_value.specs.Fault.{out_of_memory}
use Rattle.tool_commands.specs.Failed.{Failed, not_json, faulty, read_failed}

-- the bytes are a text by UTF-8, and that text is JSON of this value
abbrev pub IsJson : List ℕ → Data → Type 0
IsJson bytes json = IsUtf8 bytes × (read bytes ≡ Some json)

-- the JSON value of what was read, or why there is none
abbrev pub ReadsJson : Result (List ℕ) Failed → Result Data Failed → Type 0
ReadsJson (Err failed) answer = answer ≡ Err failed
ReadsJson (Ok bytes) (Ok json) = IsJson bytes json
ReadsJson (Ok bytes) (Err not_json) = (json : Data) → IsJson bytes json → ⊥
ReadsJson (Ok bytes) (Err (faulty fault)) = fault ≡ out_of_memory
ReadsJson (Ok bytes) (Err read_failed) = ⊥

-- what a command answers to what was read, by what it answers to the JSON value
abbrev pub OfJson : {A : Type 0} → (Result Data Failed → A → Type 0) → Result (List ℕ) Failed → A
    → Type 0
OfJson Step input answer = (json : Result Data Failed) × ReadsJson input json × Step json answer

-- the compact text, without a space, and a line feed
abbrev pub json_line : Data → List ℕ
json_line json = compact_text json ++ 10 ∷ []
