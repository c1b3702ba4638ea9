-- The requests of a file of `aws dynamodb batch-write-item`: an object of a list of requests under
-- the name of each table. A request is an object with `PutRequest`, whose `Item` is DynamoDB JSON
-- of an item, or with `DeleteRequest`, whose `Key` is one.
use Rattle.std.specs.Prelude.{ℕ, List, [], ◌∷◌, Option, Some, None, Result, Ok, Err, codes, map}
use Rattle.std.specs.Prelude.{string_bytes}
use Rattle.serde_json.specs.Data as json
use Rattle.serde_json.specs.Data.{Data}
use Rattle.serde_json.specs.Find.{get}
use Rattle.dynamo_value.specs.Av.{Members}
use Rattle.dynamo_value.specs.Item.{item_view}
use Rattle.dynamo_value.specs.Refusal.{Refusal, any_message, or_refuse}
use Rattle.dynamo_value.specs.Steps.{◌>>=◌}
use Rattle.dynamo_json.specs.Parsed.{each_in, parsed_item}
use Rattle.exports.specs.declared.requests.Request.{Request}
use Rattle.exports.specs.declared.requests.TableRequests.{TableRequests}

pub data Asked : Type 0 where
  put delete : Members → Asked

-- as contracts see the program's own types
abbrev pub asked : Request → Asked
asked (Request.Put item) = put (item_view item)
asked (Request.Delete key) = delete (item_view key)

abbrev pub asked_of_table : TableRequests → List ℕ × List Asked
asked_of_table t = (string_bytes t.table, map asked t.requests.items)

-- the item that is under a name
abbrev pub item_under : List ℕ → Data → Result Members Refusal
item_under name content = or_refuse any_message (get name content) >>= parsed_item

-- the request of what is under `PutRequest` and `DeleteRequest`, of which there is one
abbrev pub request_of : Option Data → Option Data → Result Asked Refusal
request_of (Some content) None = item_under (codes "Item") content >>= λ item. Ok (put item)
request_of None (Some content) = item_under (codes "Key") content >>= λ key. Ok (delete key)
request_of _ _ = Err any_message

abbrev pub request_in : Data → Result Asked Refusal
request_in json = request_of (get (codes "PutRequest") json) (get (codes "DeleteRequest") json)

abbrev pub requests_in : Data → Result (List Asked) Refusal
requests_in (json.array items) = each_in request_in items
requests_in _ = Err any_message

-- the members of the object, in the order of their names
abbrev pub tables_in : json.Members → Result (List (List ℕ × List Asked)) Refusal
tables_in json.no_members = Ok []
tables_in (json.member name requests rest) = do
  here ← requests_in requests
  more ← tables_in rest
  Ok ((name, here) ∷ more)

abbrev pub requests_by_table : Data → Result (List (List ℕ × List Asked)) Refusal
requests_by_table (json.object members) = tables_in members
requests_by_table _ = Err any_message
