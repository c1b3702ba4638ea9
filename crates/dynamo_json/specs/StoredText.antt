-- The tokens that are written for a JSON value as DynamoDB JSON, and for an attribute value as
-- plain JSON, added to those written so far.
use Rattle.std.specs.Prelude.{◌≡◌, ◌⊎◌, ℕ, List, ◌++◌, Result, Ok, Err, if◌then◌else◌}
use Rattle.json.specs.Token.{Token}
use Rattle.json.specs.Tree.{items_tokens, members_tokens}
use Rattle.serde_json.specs.Data as json
use Rattle.serde_json.specs.Data.{Data, Items, Members, Num}
use Rattle.serde_json.specs.Written.{items_outline, members_outline}
use Rattle.dynamo_value.specs.Av as av
use Rattle.dynamo_value.specs.Av.{Av, members_of}
use Rattle.dynamo_value.specs.Fault.{Fault, failed_to_parse_float, out_of_memory}
use Rattle.dynamo_value.specs.Kind.{fault_of}
use Rattle.dynamo_value.specs.Refusal.{Refusal, Says, any_message, fault}
use Rattle.dynamo_value.specs.declared.error.Error.{Error}
use Rattle.dynamo_ser.specs.JsonValue.{json_datum, json_elements, json_pairs, number_datum}
use Rattle.dynamo_write.specs.Collect.{collect}
use Rattle.dynamo_write.specs.Written.{written, written_elements, written_pairs}
use Rattle.dynamo_de.specs.Answer.{Answer}
use Rattle.dynamo_de.specs.Number.{is_float_text}
use Rattle.dynamo_de.specs.ReadJson.{read_blobs, read_elements, read_members, read_number}
use Rattle.dynamo_de.specs.ReadJson.{read_numbers, read_value}
use Rattle.dynamo_json.specs.Json.{json_of, elements_json, members_json}
use Rattle.dynamo_json.specs.Tokens.{tokens_of}

-- The tokens so far, and after them those of a result; or the reason why there is none.
abbrev pub behind : {A R : Type 0} → (A → List Token) → List Token → Result A R
    → Result (List Token) R
behind tokens so_far (Ok x) = Ok (so_far ++ tokens x)
behind tokens so_far (Err r) = Err r

-- There is no result, for a reason that this fault keeps to.
abbrev pub Lacks : {A R : Type 0} → (R → Fault → Type 0) → Result A R → Fault → Type 0
Lacks Keeps (Ok x) f = ⊥
Lacks Keeps (Err r) f = Keeps r f

-- All tokens are written. Or writing stopped: at a fault, where there are none to write, or because
-- memory ran out, and then nothing is promised.
abbrev pub Prints : {R : Type 0} → (R → Fault → Type 0) → Result (Unit {0}) Error
    → Result (List Token) R → List Token → Type 0
Prints Keeps (Ok done) whole new = whole ≡ Ok new
Prints Keeps (Err e) whole new = (fault_of e ≡ out_of_memory) ⊎ Lacks Keeps whole (fault_of e)

-- the tokens of the values of an array and of the members of an object, with the bracket that
-- closes them
abbrev pub tokens_in : Items → List Token
tokens_in js = items_tokens (items_outline js)

abbrev pub tokens_within : Members → List Token
tokens_within ms = members_tokens (members_outline ms)

-- ---- a JSON value, as the DynamoDB JSON of the attribute value that it is written as

abbrev pub PrintsStored : Result (Unit {0}) Error → Result (List Token) Fault → List Token → Type 0
PrintsStored done whole new = Prints (λ f g. f ≡ g) done whole new

abbrev pub stored : List Token → Data → Result (List Token) Fault
stored so_far j = behind (λ a. tokens_of (json_of a)) so_far (written (json_datum j))

abbrev pub stored_number : List Token → Num → Result (List Token) Fault
stored_number so_far n = behind (λ a. tokens_of (json_of a)) so_far (written (number_datum n))

abbrev pub stored_items : List Token → Items → Result (List Token) Fault
stored_items so_far js = behind (λ as'. tokens_in (elements_json as')) so_far
    (written_elements (json_elements js))

abbrev pub stored_members : List Token → Members → Result (List Token) Fault
stored_members so_far ms = behind (λ es. tokens_within (members_json (members_of (collect es))))
    so_far (written_pairs (json_pairs ms))

-- ---- an attribute value, as the JSON value that it is read as

abbrev pub PrintsPlain : Result (Unit {0}) Error → Result (List Token) Refusal → List Token → Type 0
PrintsPlain done whole new = Prints Says done whole new

abbrev pub plain : List Token → Av → Result (List Token) Refusal
plain so_far a = behind tokens_of so_far (read_value a)

abbrev pub plain_number : List Token → List ℕ → Result (List Token) Refusal
plain_number so_far text = behind tokens_of so_far (read_number text)

-- why a string that is no integer of 64 bits isn't read
abbrev pub number_refusal : List ℕ → Refusal
number_refusal text = if is_float_text text then any_message else fault (failed_to_parse_float text)

abbrev pub array_behind : List Token → Answer Items → Result (List Token) Refusal
array_behind so_far js = behind (λ js. tokens_of (json.array js)) so_far js

abbrev pub plain_elements : List Token → av.Elements → Result (List Token) Refusal
plain_elements so_far as' = array_behind so_far (read_elements as')

abbrev pub plain_numbers : List Token → List (List ℕ) → Result (List Token) Refusal
plain_numbers so_far texts = array_behind so_far (read_numbers texts)

abbrev pub plain_blobs : List Token → List (List ℕ) → Result (List Token) Refusal
plain_blobs so_far blobs = array_behind so_far (read_blobs blobs)

abbrev pub plain_members : List Token → av.Members → Result (List Token) Refusal
plain_members so_far ms = behind (λ js. tokens_of (json.object js)) so_far
    (read_members json.no_members ms)
