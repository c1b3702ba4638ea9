-- Rows of DynamoDB JSON, as the definitions compute them.
use Rattle.std.proofs.Common.{◌≡◌, List, ℕ, [], true, false, Ok, Err, codes, refl}
use Rattle.dynamo_json.proofs.Common.{Data, any_message, json_of, parsed, parsed_item, no_key}
use Rattle.dynamo_json.proofs.Common.{several_keys, unknown_key, not_an_object}
use Rattle.serde_json.specs.Data as json
use Rattle.dynamo_value.specs.Av as av

-- the object of one member
one : List ℕ → Data → Data
one key content = json.object (json.member key content json.no_members)

empty : Data
empty = json.object json.no_members

-- {"NULL":false}
null_keeps_its_flag : json_of (av.Null false) ≡ json.object (json.member (codes "NULL") (json.boolean false) json.no_members)
null_keeps_its_flag = refl

-- {"SS":[]}
a_set_is_an_array : json_of (av.Ss []) ≡ json.object (json.member (codes "SS") (json.array json.no_items) json.no_members)
a_set_is_an_array = refl

-- {"N":"abc"}
a_number_is_its_text : parsed (one (codes "N") (json.string (codes "abc"))) ≡ Ok (av.N (codes "abc"))
unfolding one
a_number_is_its_text = refl

-- null
null_is_no_object : parsed json.null ≡ Err not_an_object
null_is_no_object = refl

-- {}
without_a_key : parsed empty ≡ Err no_key
unfolding empty
without_a_key = refl

-- {"N":"1","X":"1"}: the keys are counted first
keys_are_counted_first : (n x : Data) → parsed (json.object (json.member (codes "N") n (json.member (codes "X") x json.no_members))) ≡ Err several_keys
keys_are_counted_first n x = refl

-- {"X":"1"}
an_unknown_key : parsed (one (codes "X") (json.string (codes "1"))) ≡ Err (unknown_key (codes "X"))
unfolding one
an_unknown_key = refl

-- {"S":true}
another_kind : parsed (one (codes "S") (json.boolean true)) ≡ Err any_message
unfolding one
another_kind = refl

-- {"L":[{},{"X":"1"}]}: the first refusal
the_first_element : parsed (one (codes "L") (json.array (json.item empty (json.item (one (codes "X") json.null) json.no_items)))) ≡ Err no_key
unfolding one empty
the_first_element = refl

-- {"M":{"a":{"X":"1"},"b":{}}}
the_first_member : parsed_item (json.object (json.member (codes "a") (one (codes "X") json.null) (json.member (codes "b") empty json.no_members))) ≡ Err (unknown_key (codes "X"))
unfolding one empty
the_first_member = refl
