-- Worked rows of the words and of what `check` prints, each by computing.
use Rattle.std.proofs.Common.{◌≡◌, [], ◌∷◌, ◌++◌, true, Some, None, refl}
use Rattle.std.specs.Prelude.{codes}
use Rattle.serde_json.proofs.OnLiterals.{serde_json_on_literals}
use Rattle.serde_json.specs.Data.{Data}
use Rattle.serde_json.specs.Read.{read}
use Rattle.dynamo_value.specs.Av as av
use Rattle.dynamo_value.specs.Refusal.{refusal_in}
use Rattle.dynamo_json.specs.Json.{json_of}
use Rattle.dynamo_json.specs.Parsed.{parsed, no_key}
use Rattle.tool_commands.specs.JsonText.{json_line}
use Rattle.tool_commands.specs.Words.{user, check, command_of}

asks_check : command_of (codes "check" ∷ []) ≡ Some check
asks_check = refl

asks_user : command_of (codes "user" ∷ codes "x" ∷ codes "Arthur Dent" ∷ codes "+42" ∷ []) ≡ Some (user (codes "x") (codes "Arthur Dent") 42)
asks_user = refl

no_age : command_of (codes "user" ∷ codes "x" ∷ codes "Arthur Dent" ∷ codes "256" ∷ []) ≡ None
no_age = refl

further_word : command_of (codes "check" ∷ codes "a" ∷ []) ≡ None
further_word = refl

-- a value with spaces, which its line hasn't
read_with_spaces : read (codes "{ \"BOOL\" : true }") ≡ Some (json_of (av.Boolean true))
unfolding serde_json_on_literals
read_with_spaces = refl

printed_without : json_line (json_of (av.Boolean true)) ≡ codes "{\"BOOL\":true}" ++ 10 ∷ []
unfolding serde_json_on_literals
printed_without = refl

-- no input, and one that is cut off
nothing_read : read [] ≡ None
unfolding serde_json_on_literals
nothing_read = refl

cut_off : read (codes "{\"S\":\"a") ≡ None
unfolding serde_json_on_literals
cut_off = refl

-- a value without a key inside
without_key : (j : Data) × (read (codes "{\"M\":{\"a\":{}}}") ≡ Some j) × (refusal_in (parsed j) ≡ Some no_key)
unfolding serde_json_on_literals
without_key = (_, refl, refl)
