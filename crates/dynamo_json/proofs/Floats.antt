-- There is no float in DynamoDB JSON, since numbers are texts.
use Rattle.std.proofs.Common.{◌≡◌, ℕ, List, [], ◌∷◌, map, false, refl}
use Rattle.dynamo_json.proofs.Common.{has_float, items_have_float, members_have_float, base64_text}
use Rattle.dynamo_json.proofs.Common.{elements_json, members_json, WritesNoFloat}
use Rattle.dynamo_json.proofs.Common.{WritesItemsWithoutFloat}
use Rattle.dynamo_value.specs.Av as av
use Rattle.dynamo_json.specs.Json.{strings}

strings_without : (texts : List (List ℕ)) → has_float (strings texts) ≡ false
strings_without [] = refl
strings_without (text ∷ texts) = strings_without texts

mutual
  pub writes_no_float : WritesNoFloat
  writes_no_float (av.N text) = refl
  writes_no_float (av.S text) = refl
  writes_no_float (av.Boolean b) = refl
  writes_no_float (av.Null b) = refl
  writes_no_float (av.B bytes) = refl
  writes_no_float (av.M members) = rw (members_without members) refl
  writes_no_float (av.L elements) = rw (elements_without elements) refl
  writes_no_float (av.Ss texts) = rw (strings_without texts) refl
  writes_no_float (av.Ns texts) = rw (strings_without texts) refl
  writes_no_float (av.Bs blobs) = rw (strings_without (map base64_text blobs)) refl

  elements_without : (as' : av.Elements) → items_have_float (elements_json as') ≡ false
  elements_without av.no_elements = refl
  elements_without (av.element a as') = rw (writes_no_float a, elements_without as') refl

  members_without : (ms : av.Members) → members_have_float (members_json ms) ≡ false
  members_without av.no_members = refl
  members_without (av.member name a ms) = rw (writes_no_float a, members_without ms) refl

pub writes_items_without_float : WritesItemsWithoutFloat
writes_items_without_float members = members_without members
