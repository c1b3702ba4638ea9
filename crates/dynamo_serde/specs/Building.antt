-- The machine's state that a builder stands for; for private clauses.
use Rattle.std.specs.Prelude.{map, option_map, string_bytes}
use Rattle.dynamo_value.specs.View.{view, entries_view}
use Rattle.dynamo_serde.specs.Sent.{Frame, State, whole, list, table, marked}
use Rattle.dynamo_serde.specs.SymbolOf.{symbol_of}
use Rattle.dynamo_serde.specs.declared.open.Open.{Open}
use Rattle.dynamo_serde.specs.declared.builder.Builder.{Builder}

abbrev pub frame : Open → Frame
frame (Open.Whole a) = whole (option_map view a)
frame (Open.List as') = list (map view as'.items)
frame (Open.Map m) = table (entries_view m.entries.entries) (option_map string_bytes m.key) m.shared
frame (Open.Marked symbol a) = marked (symbol_of symbol) (option_map view a)

abbrev pub state : Builder → State
state b = record
    { below = map frame b.below.items; top = frame b.top; at_key = b.at_key; flattens = b.flattens }
