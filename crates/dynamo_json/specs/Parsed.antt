-- What is read from DynamoDB JSON, and what is promised of a refusal. At each object its keys are
-- counted, then the prefix is looked at, then the content. Arrays are read in order, objects in the
-- order of their keys, and the first refusal is given.
use Rattle.std.specs.Prelude.{ℕ, List, [], ◌∷◌, Result, Ok, Err}
use Rattle.serde_json.specs.Data as json
use Rattle.serde_json.specs.Data.{Data}
use Rattle.dynamo_value.specs.Av as av
use Rattle.dynamo_value.specs.Av.{Av}
use Rattle.dynamo_value.specs.Base64.{bytes_of_base64}
use Rattle.dynamo_value.specs.Prefix as prefix
use Rattle.dynamo_value.specs.Prefix.{Prefix}
use Rattle.dynamo_value.specs.Refusal.{Refusal, any_message}
use Rattle.dynamo_value.specs.Steps.{◌>>=◌}
pub use Rattle.dynamo_value.specs.SingleKey.{not_an_object, no_key, several_keys, unknown_key}
pub use Rattle.dynamo_value.specs.SingleKey.{known}

abbrev pub string_in : Data → Result (List ℕ) Refusal
string_in (json.string text) = Ok text
string_in _ = Err any_message

abbrev pub blob_in : Data → Result (List ℕ) Refusal
blob_in j = string_in j >>= bytes_of_base64

-- each element in order
abbrev pub each_in : {A : Type 0} → (Data → Result A Refusal) → json.Items → Result (List A) Refusal
each_in f json.no_items = Ok []
each_in f (json.item j js) = do
  x ← f j
  xs ← each_in f js
  Ok (x ∷ xs)

abbrev mutual
  pub parsed : Data → Result Av Refusal
  parsed (json.object json.no_members) = Err no_key
  parsed (json.object (json.member key content json.no_members)) = known key
      >>= λ p. parsed_content content p
  parsed (json.object (json.member key content (json.member other value ms))) = Err several_keys
  parsed _ = Err not_an_object

  -- what is under a prefix
  pub parsed_content : Data → Prefix → Result Av Refusal
  parsed_content (json.string text) prefix.N = Ok (av.N text)
  parsed_content (json.string text) prefix.S = Ok (av.S text)
  parsed_content (json.boolean b) prefix.Bool = Ok (av.Boolean b)
  parsed_content (json.string text) prefix.B = bytes_of_base64 text >>= λ bytes. Ok (av.B bytes)
  parsed_content (json.boolean b) prefix.Null = Ok (av.Null b)
  parsed_content (json.object ms) prefix.M = parsed_members ms >>= λ members. Ok (av.M members)
  parsed_content (json.array js) prefix.L = parsed_elements js >>= λ elements. Ok (av.L elements)
  parsed_content (json.array js) prefix.Ss = each_in string_in js >>= λ texts. Ok (av.Ss texts)
  parsed_content (json.array js) prefix.Ns = each_in string_in js >>= λ texts. Ok (av.Ns texts)
  parsed_content (json.array js) prefix.Bs = each_in blob_in js >>= λ blobs. Ok (av.Bs blobs)
  parsed_content _ _ = Err any_message

  pub parsed_elements : json.Items → Result av.Elements Refusal
  parsed_elements json.no_items = Ok av.no_elements
  parsed_elements (json.item j js) = do
    a ← parsed j
    as' ← parsed_elements js
    Ok (av.element a as')

  pub parsed_members : json.Members → Result av.Members Refusal
  parsed_members json.no_members = Ok av.no_members
  parsed_members (json.member name j ms) = do
    a ← parsed j
    members ← parsed_members ms
    Ok (av.member name a members)

-- An item is the object of its attributes; what is no object is refused by a message.
abbrev pub parsed_item : Data → Result av.Members Refusal
parsed_item (json.object ms) = parsed_members ms
parsed_item _ = Err any_message
