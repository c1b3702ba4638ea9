-- What is refused is refused by a message.
use Rattle.std.proofs.Common.{ℕ, List, Result, Ok, Err, Option, Some, None, IfErr}
use Rattle.std.specs.Result.{result_ok}
use Rattle.base64.specs.Engines.{standard}
use Rattle.dynamo_json.proofs.Common.{decode_of, Data, bytes_of_base64, not_base64, Prefix}
use Rattle.dynamo_json.proofs.Common.{prefix_of, Refusal, or_refuse, ◌>>=◌, SaysMessage}
use Rattle.dynamo_json.proofs.Common.{RefusesByMessage, RefusesItemsByMessage, unknown_key, known}
use Rattle.dynamo_json.proofs.Common.{each_in, string_in, blob_in, parsed, parsed_content}
use Rattle.dynamo_json.proofs.Common.{parsed_elements, parsed_members}
use Rattle.serde_json.specs.Data as json
use Rattle.dynamo_value.specs.Prefix as prefix

-- a step that refuses by messages alone
abbrev ByMessage : {A : Type 0} → Result A Refusal → Type 0
ByMessage r = IfErr r SaysMessage

both_steps : {A B : Type 0} (r : Result A Refusal) (f : A → Result B Refusal) → ByMessage r → ((x : A) → ByMessage (f x)) → ByMessage (r >>= f)
both_steps (Ok x) f h k = k x
both_steps (Err e) f h k = h

or_by_message : {A : Type 0} (r : Refusal) (o : Option A) → SaysMessage r → ByMessage (or_refuse r o)
or_by_message r (Some x) h = tt
or_by_message r None h = h

known_by_message : (key : List ℕ) → ByMessage (known key)
known_by_message key = or_by_message (unknown_key key) (prefix_of key) (λ f h. (_, h))

bytes_by_message : (text : List ℕ) → ByMessage (bytes_of_base64 text)
bytes_by_message text = or_by_message not_base64 (result_ok (decode_of standard text)) (λ f h. (_, h.1))

string_by_message : (j : Data) → ByMessage (string_in j)
string_by_message (json.string text) = tt
string_by_message _ = λ f h. h

blob_by_message : (j : Data) → ByMessage (blob_in j)
blob_by_message j = both_steps (string_in j) bytes_of_base64 (string_by_message j) bytes_by_message

each_by_message : {A : Type 0} (f : Data → Result A Refusal) → ((j : Data) → ByMessage (f j)) → (js : json.Items) → ByMessage (each_in f js)
each_by_message f h json.no_items = tt
each_by_message f h (json.item j js) = both_steps (f j) _ (h j) (λ x. both_steps (each_in f js) _ (each_by_message f h js) (λ xs. tt))

mutual
  pub refuses_by_message : RefusesByMessage
  refuses_by_message (json.object json.no_members) = λ f h. (_, h)
  refuses_by_message (json.object (json.member key content json.no_members)) = both_steps (known key) _ (known_by_message key) (λ p. content_by_message content p)
  refuses_by_message (json.object (json.member key content (json.member other value ms))) = λ f h. (_, h)
  refuses_by_message _ = λ f h. (_, h.2)

  content_by_message : (content : Data) (p : Prefix) → ByMessage (parsed_content content p)
  content_by_message (json.string text) prefix.N = tt
  content_by_message (json.string text) prefix.S = tt
  content_by_message (json.string text) prefix.B = both_steps (bytes_of_base64 text) _ (bytes_by_message text) (λ bytes. tt)
  content_by_message (json.boolean b) prefix.Bool = tt
  content_by_message (json.boolean b) prefix.Null = tt
  content_by_message (json.object ms) prefix.M = both_steps (parsed_members ms) _ (members_by_message ms) (λ members. tt)
  content_by_message (json.array js) prefix.L = both_steps (parsed_elements js) _ (elements_by_message js) (λ elements. tt)
  content_by_message (json.array js) prefix.Ss = both_steps (each_in string_in js) _ (each_by_message string_in string_by_message js) (λ texts. tt)
  content_by_message (json.array js) prefix.Ns = both_steps (each_in string_in js) _ (each_by_message string_in string_by_message js) (λ texts. tt)
  content_by_message (json.array js) prefix.Bs = both_steps (each_in blob_in js) _ (each_by_message blob_in blob_by_message js) (λ blobs. tt)
  content_by_message _ _ = λ f h. h

  elements_by_message : (js : json.Items) → ByMessage (parsed_elements js)
  elements_by_message json.no_items = tt
  elements_by_message (json.item j js) = both_steps (parsed j) _ (refuses_by_message j) (λ a. both_steps (parsed_elements js) _ (elements_by_message js) (λ as'. tt))

  members_by_message : (ms : json.Members) → ByMessage (parsed_members ms)
  members_by_message json.no_members = tt
  members_by_message (json.member name j ms) = both_steps (parsed j) _ (refuses_by_message j) (λ a. both_steps (parsed_members ms) _ (members_by_message ms) (λ members. tt))

pub refuses_items_by_message : RefusesItemsByMessage
refuses_items_by_message (json.object ms) = members_by_message ms
refuses_items_by_message _ = λ f h. h
