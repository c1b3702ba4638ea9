-- The SQL statements of a table's items, each with its parameters.
use Rattle.std.specs.Prelude.{◌++◌, ◌-◌, ◌^◌, ℕ, ℤ, pos, List, [], ◌∷◌, codes, min}
use Rattle.serde_json.specs.Written.{compact_text}
use Rattle.sqlite.specs.Order.{Row}
use Rattle.sqlite.specs.declared.types.Value.TheVariants.{Blob, Int, Text}
use Rattle.dynamo_value.specs.Item.{item_view}
use Rattle.dynamo_value.specs.declared.item.Item.{Item}
use Rattle.dynamo_json.specs.Json.{item_json}
use Rattle.table_keys.specs.declared.bytes.KeyBytes.{KeyBytes}

-- the item of a key
abbrev pub get_text : List ℕ
get_text = codes
    "SELECT item FROM dynamo_item WHERE table_id = ?1 AND partition_key = ?2 AND sort_key = ?3"

-- an item is put under its key
abbrev pub put_text : List ℕ
put_text =
    codes "INSERT OR REPLACE INTO dynamo_item (table_id, partition_key, sort_key, item) VALUES (?1, ?2, ?3, ?4)"

-- the item of a key is deleted
abbrev pub delete_text : List ℕ
delete_text = codes
    "DELETE FROM dynamo_item WHERE table_id = ?1 AND partition_key = ?2 AND sort_key = ?3"

-- how many items there are
abbrev pub count_text : List ℕ
count_text = codes "SELECT count(*) FROM dynamo_item WHERE table_id = ?1"

-- the items after a sort key in its partition, and those of the partitions that follow
abbrev pub rest_text : List ℕ
rest_text =
    codes "SELECT item FROM dynamo_item WHERE table_id = ?1 AND partition_key = ?2 AND sort_key > ?3 ORDER BY sort_key LIMIT ?4"

abbrev pub following_text : List ℕ
following_text =
    codes "SELECT item FROM dynamo_item WHERE table_id = ?1 AND partition_key > ?2 ORDER BY partition_key, sort_key LIMIT ?3"

-- a transaction begins, and it ends with all its changes or with none
abbrev pub begin_text : List ℕ
begin_text = codes "BEGIN"

abbrev pub commit_text : List ℕ
commit_text = codes "COMMIT"

abbrev pub rollback_text : List ℕ
rollback_text = codes "ROLLBACK"

-- the place of a row: the number of its table, and the bytes of its key
abbrev pub place : ℤ → KeyBytes → Row
place id key = Int id ∷ Blob key.partition.items ∷ Blob key.sort.items ∷ []

-- the text of an item: its DynamoDB JSON, without blanks
abbrev pub text_of : Item → List ℕ
text_of item = compact_text (item_json (item_view item))

-- the row of an item
abbrev pub row_of : ℤ → KeyBytes → Item → Row
row_of id key item = place id key ++ Text (text_of item) ∷ []

-- a limit as SQLite takes it, which has no larger one
abbrev pub limit_of : ℕ → ℤ
limit_of limit = pos (min limit (2 ^ 63 - 1))

-- so many rows after a key in its partition, and so many of the partitions that follow
abbrev pub rest_of : ℤ → KeyBytes → ℕ → Row
rest_of id start limit = place id start ++ Int (limit_of limit) ∷ []

abbrev pub following_of : ℤ → KeyBytes → ℕ → Row
following_of id start limit = Int id ∷ Blob start.partition.items ∷ Int (limit_of limit) ∷ []
