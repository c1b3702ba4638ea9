-- DynamoDB JSON: the JSON value of an attribute value is an object of one member. Its key names the
-- kind, its value is the content: a number is its text, so that no digit is lost, a byte string its
-- base64 text, a set an array.
use Rattle.std.specs.Prelude.{ℕ, List, map}
use Rattle.serde_json.specs.Data as json
use Rattle.serde_json.specs.Data.{Data}
use Rattle.serde_json.specs.View.{items_of}
use Rattle.dynamo_value.specs.Av as av
use Rattle.dynamo_value.specs.Av.{Av}
use Rattle.dynamo_value.specs.Base64.{base64_text}
use Rattle.dynamo_value.specs.Prefix as prefix
use Rattle.dynamo_value.specs.Prefix.{Prefix, prefix_text}

-- the object of one member
abbrev pub under : Prefix → Data → Data
under p content = json.object (json.member (prefix_text p) content json.no_members)

abbrev pub strings : List (List ℕ) → Data
strings texts = json.array (items_of (map json.string texts))

abbrev mutual
  pub json_of : Av → Data
  json_of (av.N text) = under prefix.N (json.string text)
  json_of (av.S text) = under prefix.S (json.string text)
  json_of (av.Boolean b) = under prefix.Bool (json.boolean b)
  json_of (av.B bytes) = under prefix.B (json.string (base64_text bytes))
  json_of (av.Null b) = under prefix.Null (json.boolean b)
  json_of (av.M members) = under prefix.M (json.object (members_json members))
  json_of (av.L elements) = under prefix.L (json.array (elements_json elements))
  json_of (av.Ss texts) = under prefix.Ss (strings texts)
  json_of (av.Ns texts) = under prefix.Ns (strings texts)
  json_of (av.Bs blobs) = under prefix.Bs (strings (map base64_text blobs))

  pub elements_json : av.Elements → json.Items
  elements_json av.no_elements = json.no_items
  elements_json (av.element a as') = json.item (json_of a) (elements_json as')

  pub members_json : av.Members → json.Members
  members_json av.no_members = json.no_members
  members_json (av.member name a ms) = json.member name (json_of a) (members_json ms)

-- The JSON value of an item is the object of its attributes.
abbrev pub item_json : av.Members → Data
item_json members = json.object (members_json members)
