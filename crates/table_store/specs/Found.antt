-- Which items a query may answer.
use Rattle.std.specs.Prelude.{◌≡◌, true, Ok}
use Rattle.dynamo_value.specs.declared.item.Item.{Item}
use Rattle.table_keys.specs.KeyOf.{ReadsKey}
use Rattle.table_keys.specs.declared.key.Key.{Key}
use Rattle.table_keys.specs.declared.schema.KeySchema.{KeySchema}
use Rattle.table_keys.specs.Queries.{finds}
use Rattle.table_keys.specs.declared.query.Query.{Query}

-- the item has a key that the query finds
abbrev pub IsFound : KeySchema → Query → Item → Type 0
IsFound schema query item = (key : Key) × ReadsKey schema item (Ok key) × (finds query key ≡ true)
