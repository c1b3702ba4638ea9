-- Values that come before other items of an array.
use Rattle.std.specs.Prelude.{List, [], ◌∷◌}
use Rattle.serde_json.specs.Data as json
use Rattle.serde_json.specs.View.{view}
use Rattle.serde_json.specs.declared.value.Value.{Value}

abbrev pub items_before : List Value → json.Items → json.Items
items_before [] rest = rest
items_before (v ∷ vs) rest = json.item (view v) (items_before vs rest)
