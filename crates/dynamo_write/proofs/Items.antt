-- A map that was written is an item's.
use Rattle.std.proofs.Common.{◌≡◌, Ok, ◌∙◌, ap}
use Rattle.dynamo_value.specs.Steps.{◌>>=◌}
use Rattle.dynamo_value.specs.Table.{Table}
use Rattle.dynamo_value.specs.View.{view, members_view}
use Rattle.dynamo_value.proofs.Views.{view_map}
use Rattle.dynamo_value.specs.declared.attribute_value.AttributeValue.{AttributeValue, M}
use Rattle.dynamo_ser.specs.Datum.{Datum}
use Rattle.dynamo_write.specs.Written.{written, members_in, item_written}

pub item_of_map : (d : Datum) (a : AttributeValue) (map : Table) → written d ≡ Ok (view a) → a ≡ M map → item_written d ≡ Ok (members_view map.entries)
item_of_map d a map is is_map = ap (λ x. x >>= members_in) (is ∙ ap Ok (ap view is_map ∙ view_map map))
