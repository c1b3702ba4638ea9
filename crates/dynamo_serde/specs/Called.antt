-- The event of a call, and the events so far with that of one more call.
use Rattle.std.specs.Prelude.{Option, Some, None, [], ◌∷◌, ◌++◌}
use Rattle.serde.specs.Event.{Event, Log, boolean, signed, unsigned, single, double, character}
use Rattle.serde.specs.Event.{text, octets, nothing, unit_variant, seq_begins, seq_ends, map_begins}
use Rattle.serde.specs.Event.{map_ends, field_key, variant_key, key_begins, key_ends, flattens}
use Rattle.dynamo_serde.specs.declared.events.Call.{Call}
use Rattle.dynamo_serde.specs.declared.events.Call.TheVariants as call

abbrev pub event_of : Call → Option Event
event_of (call.Bool b) = Some (boolean b)
event_of (call.Signed z) = Some (signed z)
event_of (call.Unsigned n) = Some (unsigned n)
event_of (call.Single x) = Some (single x)
event_of (call.Double x) = Some (double x)
event_of (call.Char c) = Some (character c)
event_of (call.Text s) = Some (text s.now)
event_of (call.Bytes s) = Some (octets s.now)
event_of call.Unit = Some nothing
event_of (call.UnitVariant name case) = Some (unit_variant name.now case)
event_of (call.BeginSeq n) = Some (seq_begins n)
event_of call.EndSeq = Some seq_ends
event_of (call.BeginMap n) = Some (map_begins n)
event_of call.EndMap = Some map_ends
event_of (call.FieldKey name case) = Some (field_key name.now case)
event_of (call.VariantKey name case) = Some (variant_key name.now case)
event_of call.BeginKey = Some key_begins
event_of call.EndKey = Some key_ends
event_of call.Flatten = Some flattens
event_of call.Unknown = None

-- what is unknown stays unknown
abbrev pub and_then : Log → Option Event → Log
and_then (Some es) (Some e) = Some (es ++ e ∷ [])
and_then _ _ = None
