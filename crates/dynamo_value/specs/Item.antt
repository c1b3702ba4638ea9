-- The maps of an item and of a list of items.
use Rattle.std.specs.Prelude.{List, map}
use Rattle.dynamo_value.specs.Av.{Members}
use Rattle.dynamo_value.specs.Table.{Table}
use Rattle.dynamo_value.specs.View.{members_view}
use Rattle.dynamo_value.specs.declared.item.Item.{Item}
use Rattle.dynamo_value.specs.declared.item.Items.{Items}

abbrev pub map_of : Item → Table
map_of item = item.map

abbrev pub item_of : Table → Item
item_of m = record { map = m }

abbrev pub maps_of : Items → List Table
maps_of items = items.maps.items

-- an item by its members, and a list of items by those of each
abbrev pub item_view : Item → Members
item_view item = members_view (map_of item).entries

abbrev pub tables_view : List Table → List Members
tables_view maps = map (λ m. members_view m.entries) maps

abbrev pub items_view : Items → List Members
items_view items = tables_view (maps_of items)
