-- What a line of an export asks of a table. A line of a full export has an item under `Item`, which
-- is put. A line of an incremental export has `Keys`, and what it puts is under `NewImage`; where
-- there is none, the item under the keys is deleted.
use Rattle.std.specs.Prelude.{◌≡◌, Option, Some, None, Result, Ok, Err, MatchResult, codes}
use Rattle.serde_json.specs.Data.{Data}
use Rattle.serde_json.specs.Find.{get}
use Rattle.dynamo_value.specs.Item.{item_view}
use Rattle.dynamo_json.specs.Parsed.{parsed_item}
use Rattle.exports.specs.Items.{IsRefusal}
use Rattle.exports.specs.declared.fault.Fault.{Fault}
use Rattle.exports.specs.declared.requests.Request.{Request}

-- the put of the item of this JSON value
abbrev pub IsPut : Data → Request → Type 0
IsPut json (Request.Put item) = parsed_item json ≡ Ok (item_view item)
IsPut json (Request.Delete key) = ⊥

-- the delete under the key of this JSON value
abbrev pub IsDelete : Data → Request → Type 0
IsDelete json (Request.Put item) = ⊥
IsDelete json (Request.Delete key) = parsed_item json ≡ Ok (item_view key)

-- the put, or why the JSON value is no item
abbrev pub ReadsPut : Data → Result Request Fault → Type 0
ReadsPut json r = MatchResult r (IsPut json) (IsRefusal (parsed_item json))

abbrev pub ReadsDelete : Data → Result Request Fault → Type 0
ReadsDelete json r = MatchResult r (IsDelete json) (IsRefusal (parsed_item json))

-- the request by what is under `Item`, `Keys` and `NewImage`
abbrev pub ReadsMembers : Option Data → Option Data → Option Data → Result Request Fault → Type 0
ReadsMembers (Some item) keys image r = ReadsPut item r
ReadsMembers None (Some keys) (Some image) r = ReadsPut image r
ReadsMembers None (Some keys) None r = ReadsDelete keys r
ReadsMembers None None image r = r ≡ Err Fault.NoItem

abbrev pub ReadsChange : Data → Result Request Fault → Type 0
ReadsChange json r = ReadsMembers (get (codes "Item") json) (get (codes "Keys") json)
    (get (codes "NewImage") json) r
