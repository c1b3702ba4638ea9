-- What a table holds: items by their keys, in the keys' order.
use Rattle.std.specs.Prelude.{List}
use Rattle.std.specs.BTreeMap.{BTreeMap}
use Rattle.dynamo_value.specs.declared.item.Item.{Item}
use Rattle.table_keys.specs.declared.key.Key.{Key}
use Rattle.table_keys.specs.declared.schema.KeySchema.{KeySchema}
use Rattle.table_memory.specs.declared.table.Table.{Table}

abbrev pub items_of : Table → BTreeMap Key Item
items_of table = table.items

abbrev pub entries_of : Table → List (Key × Item)
entries_of table = table.items.entries

abbrev pub schema_of : Table → KeySchema
schema_of table = table.schema
