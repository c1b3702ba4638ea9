-- The JSON value of an attribute value is read back as it, and nothing else is read.
use Rattle.std.proofs.Common.{◌≡◌, ℕ, true, false, cond, List, [], ◌∷◌, map, Ok, Some, refl, sym, ap, ◌∙◌}
use Rattle.dynamo_json.proofs.Common.{AllByRecursion, decode_of, IsBytes, Data, items_of, Av}
use Rattle.dynamo_json.proofs.Common.{base64_text, bytes_of_base64, not_base64, HasBytes}
use Rattle.dynamo_json.proofs.Common.{ElementsHaveBytes, MembersHaveBytes, Prefix, prefix_text}
use Rattle.dynamo_json.proofs.Common.{prefixes, prefix_of, prefix_among, or_refuse, json_of}
use Rattle.dynamo_json.proofs.Common.{elements_json, members_json, item_json, under, ReadsItsJson}
use Rattle.dynamo_json.proofs.Common.{StandsForOne, ReadsItemsExactly, StandsForOneItem}
use Rattle.dynamo_json.proofs.Common.{unknown_key, known, each_in, string_in, blob_in, parsed}
use Rattle.dynamo_json.proofs.Common.{parsed_content, parsed_elements, parsed_members, parsed_item}
use Rattle.dynamo_json.proofs.Common.{ok_same, err_ok, bind_ok}
use Rattle.serde_json.specs.Data as json
use Rattle.dynamo_value.specs.Av as av
use Rattle.dynamo_value.specs.Prefix as prefix
use Rattle.std.specs.Prelude.{bytes_eq}
use Rattle.std.specs.Result.{result_ok}
use Rattle.std.proofs.lemmas.Option.{none-some, same_Some}
use Rattle.std.proofs.lemmas.Slice.Eq.{bytes_eq-Decides}
use Rattle.base64.specs.Engines.{standard}
use Rattle.base64.proofs.EngineFacts.{decode_of-encode_of, decode_of_strict}
use Rattle.dynamo_json.specs.Texts.{HasTexts, ItemsHaveTexts, MembersHaveTexts}
use Rattle.dynamo_json.proofs.Results.{was_some, was_ok}

-- ---- it is read back

pub blob_back : (bytes : List ℕ) → IsBytes bytes → bytes_of_base64 (base64_text bytes) ≡ Ok bytes
blob_back bytes h = ap (λ r. or_refuse not_base64 (result_ok r)) (decode_of-encode_of standard bytes refl h)

strings_back : (texts : List (List ℕ)) → each_in string_in (items_of (map json.string texts)) ≡ Ok texts
strings_back [] = refl
strings_back (text ∷ texts) = rw (strings_back texts) refl

blobs_back : (blobs : List (List ℕ)) → AllByRecursion IsBytes blobs → each_in blob_in (items_of (map json.string (map base64_text blobs))) ≡ Ok blobs
blobs_back [] h = refl
blobs_back (bytes ∷ blobs) h = rw (blob_back bytes h.0, blobs_back blobs h.1) refl

mutual
  pub value_back : (a : Av) → HasBytes a → parsed (json_of a) ≡ Ok a
  value_back (av.N text) h = refl
  value_back (av.S text) h = refl
  value_back (av.Boolean b) h = refl
  value_back (av.Null b) h = refl
  value_back (av.B bytes) h = rw (blob_back bytes h) refl
  value_back (av.M members) h = rw (members_back members h) refl
  value_back (av.L elements) h = rw (elements_back elements h) refl
  value_back (av.Ss texts) h = rw (strings_back texts) refl
  value_back (av.Ns texts) h = rw (strings_back texts) refl
  value_back (av.Bs blobs) h = rw (blobs_back blobs h) refl

  elements_back : (as' : av.Elements) → ElementsHaveBytes as' → parsed_elements (elements_json as') ≡ Ok as'
  elements_back av.no_elements h = refl
  elements_back (av.element a as') h = rw (value_back a h.0, elements_back as' h.1) refl

  pub members_back : (ms : av.Members) → MembersHaveBytes ms → parsed_members (members_json ms) ≡ Ok ms
  members_back av.no_members h = refl
  members_back (av.member name a ms) h = rw (value_back a h.0, members_back ms h.1) refl

pub stands_for_one : StandsForOne
stands_for_one a b h k e = ok_same (sym (value_back a h) ∙ ap parsed e ∙ value_back b k)

pub stands_for_one_item : StandsForOneItem
stands_for_one_item ms ns h k e = ok_same (sym (members_back ms h) ∙ ap parsed_item e ∙ members_back ns k)

-- ---- nothing else is read

pub among : (ps : List Prefix) (text : List ℕ) (p : Prefix) → prefix_among ps text ≡ Some p → text ≡ prefix_text p
among [] text p h = absurd (none-some p h)
among (q ∷ qs) text p h =
    elim (bytes_eq text (prefix_text q)) as (λ x. bytes_eq text (prefix_text q) ≡ x → cond x (Some q) (prefix_among qs text) ≡ Some p → text ≡ prefix_text p) [
      | true ↦ λ e k. (bytes_eq-Decides text (prefix_text q)).0 e ∙ ap prefix_text (same_Some q p k)
      | false ↦ λ e k. among qs text p k
    ] refl h

known_is : (text : List ℕ) (p : Prefix) → known text ≡ Ok p → text ≡ prefix_text p
known_is text p h = among prefixes text p (was_some (unknown_key text) (prefix_of text) p h)

blob_is : (text bytes : List ℕ) → IsBytes text → bytes_of_base64 text ≡ Ok bytes → text ≡ base64_text bytes
blob_is text bytes h e = decode_of_strict standard text bytes (refl, refl) h (was_ok (decode_of standard text) bytes (was_some not_base64 (result_ok (decode_of standard text)) bytes e))

strings_are : (js : json.Items) (texts : List (List ℕ)) → each_in string_in js ≡ Ok texts → js ≡ items_of (map json.string texts)
strings_are json.no_items texts h = ap (λ ts. items_of (map json.string ts)) (ok_same h)
strings_are (json.item (json.string text) js) texts h =
    let rest = bind_ok (each_in string_in js) _ texts h in
    ap (json.item (json.string text)) (strings_are js rest.0 rest.1) ∙ ap (λ ts. items_of (map json.string ts)) (ok_same rest.2)
strings_are (json.item _ js) texts h = absurd (err_ok h)

abbrev blob_items : List (List ℕ) → json.Items
blob_items blobs = items_of (map json.string (map base64_text blobs))

blobs_are : (js : json.Items) (blobs : List (List ℕ)) → ItemsHaveTexts js → each_in blob_in js ≡ Ok blobs → js ≡ blob_items blobs
blobs_are json.no_items blobs k h = ap blob_items (ok_same h)
blobs_are (json.item (json.string text) js) blobs k h =
    let first = bind_ok (bytes_of_base64 text) _ blobs h in
    let rest = bind_ok (each_in blob_in js) _ blobs first.2 in
    let here = blob_is text first.0 k.0 first.1 in
    let there = blobs_are js rest.0 k.1 rest.1 in
    (λ i. json.item (json.string (here i)) (there i)) ∙ ap blob_items (ok_same rest.2)
blobs_are (json.item _ js) blobs k h = absurd (err_ok h)

mutual
  pub value_is : (j : Data) (a : Av) → HasTexts j → parsed j ≡ Ok a → j ≡ json_of a
  value_is (json.object json.no_members) a k h = absurd (err_ok h)
  value_is (json.object (json.member key content json.no_members)) a k h =
      let named = bind_ok (known key) _ a h in
      ap (λ t. json.object (json.member t content json.no_members)) (known_is key named.0 named.1) ∙ content_is content named.0 a k.0 named.2
  value_is (json.object (json.member key content (json.member other value ms))) a k h = absurd (err_ok h)
  value_is _ a k h = absurd (err_ok h)

  content_is : (content : Data) (p : Prefix) (a : Av) → HasTexts content → parsed_content content p ≡ Ok a → under p content ≡ json_of a
  content_is (json.string text) prefix.N a k h = ap json_of (ok_same h)
  content_is (json.string text) prefix.S a k h = ap json_of (ok_same h)
  content_is (json.string text) prefix.B a k h =
      let r = bind_ok (bytes_of_base64 text) _ a h in ap (λ t. under prefix.B (json.string t)) (blob_is text r.0 k r.1) ∙ ap json_of (ok_same r.2)
  content_is (json.boolean b) prefix.Bool a k h = ap json_of (ok_same h)
  content_is (json.boolean b) prefix.Null a k h = ap json_of (ok_same h)
  content_is (json.object ms) prefix.M a k h =
      let r = bind_ok (parsed_members ms) _ a h in ap (λ xs. under prefix.M (json.object xs)) (members_are ms r.0 k r.1) ∙ ap json_of (ok_same r.2)
  content_is (json.array js) prefix.L a k h =
      let r = bind_ok (parsed_elements js) _ a h in ap (λ xs. under prefix.L (json.array xs)) (elements_are js r.0 k r.1) ∙ ap json_of (ok_same r.2)
  content_is (json.array js) prefix.Ss a k h =
      let r = bind_ok (each_in string_in js) _ a h in ap (λ xs. under prefix.Ss (json.array xs)) (strings_are js r.0 r.1) ∙ ap json_of (ok_same r.2)
  content_is (json.array js) prefix.Ns a k h =
      let r = bind_ok (each_in string_in js) _ a h in ap (λ xs. under prefix.Ns (json.array xs)) (strings_are js r.0 r.1) ∙ ap json_of (ok_same r.2)
  content_is (json.array js) prefix.Bs a k h =
      let r = bind_ok (each_in blob_in js) _ a h in ap (λ xs. under prefix.Bs (json.array xs)) (blobs_are js r.0 k r.1) ∙ ap json_of (ok_same r.2)
  content_is _ _ a k h = absurd (err_ok h)

  elements_are : (js : json.Items) (as' : av.Elements) → ItemsHaveTexts js → parsed_elements js ≡ Ok as' → js ≡ elements_json as'
  elements_are json.no_items as' k h = ap elements_json (ok_same h)
  elements_are (json.item j js) as' k h =
      let first = bind_ok (parsed j) _ as' h in
      let rest = bind_ok (parsed_elements js) _ as' first.2 in
      let here = value_is j first.0 k.0 first.1 in
      let there = elements_are js rest.0 k.1 rest.1 in
      (λ i. json.item (here i) (there i)) ∙ ap elements_json (ok_same rest.2)

  pub members_are : (js : json.Members) (ms : av.Members) → MembersHaveTexts js → parsed_members js ≡ Ok ms → js ≡ members_json ms
  members_are json.no_members ms k h = ap members_json (ok_same h)
  members_are (json.member name j js) ms k h =
      let first = bind_ok (parsed j) _ ms h in
      let rest = bind_ok (parsed_members js) _ ms first.2 in
      let here = value_is j first.0 k.0 first.1 in
      let there = members_are js rest.0 k.1 rest.1 in
      (λ i. json.member name (here i) (there i)) ∙ ap members_json (ok_same rest.2)

pub item_is : (j : Data) (ms : av.Members) → HasTexts j → parsed_item j ≡ Ok ms → j ≡ item_json ms
item_is (json.object js) ms k h = ap json.object (members_are js ms k h)
item_is _ ms k h = absurd (err_ok h)

pub reads_exactly : ReadsItsJson
reads_exactly a j h k = (value_is j a k, λ e. ap parsed e ∙ value_back a h)

pub reads_items_exactly : ReadsItemsExactly
reads_items_exactly ms j h k = (item_is j ms k, λ e. ap parsed_item e ∙ members_back ms h)
