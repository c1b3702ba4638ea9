-- The keys of each map differ, at every depth. So it is with each value of a program, since a
-- hashed map has no key twice: its own calls say so, and so does whatever goes over all its
-- entries.
use Rattle.std.specs.Prelude.{◌≡◌, ◌&&◌, Bool, true, false, List, [], ◌∷◌, cond, map, String}
use Rattle.std.specs.List.{list_all, list_any}
use Rattle.std.specs.Map.{keys_of}
use Rattle.std.specs.String.{string_eq}
use Rattle.std.specs.declared.alloc.Global.{Global}
use Rattle.dynamo_value.specs.Item.{map_of}
use Rattle.dynamo_value.specs.declared.attribute_value.AttributeValue.{AttributeValue}
use Rattle.dynamo_value.specs.declared.attribute_value.AttributeValue.{fold-AttributeValue}
use Rattle.dynamo_value.specs.declared.attribute_value.AttributeValue.TheOpen.{AttributeValue-F}
use Rattle.dynamo_value.specs.declared.item.Item.{Item}

abbrev pub all_differ : List (String Global) → Bool
all_differ [] = true
all_differ (key ∷ keys) = cond (list_any (string_eq key) keys) false (all_differ keys)

-- the keys of a map, where it is known of each value inside whether the keys in it differ
abbrev pub entries_differ : List (String Global × Bool) → Bool
entries_differ es = all_differ (keys_of es) && list_all (λ e. e.1) es

-- one level
abbrev pub differ_step : AttributeValue-F Bool → Bool
differ_step (AttributeValue-F.M h) = entries_differ h.entries
differ_step (AttributeValue-F.L values) = list_all (λ b. b) values.items
differ_step _ = true

abbrev pub keys_differ : AttributeValue → Bool
keys_differ = fold-AttributeValue Bool differ_step

abbrev pub KeysDiffer : AttributeValue → Type 0
KeysDiffer v = keys_differ v ≡ true

-- the same of a list's values, of a hashed map's entries, and of an item
abbrev pub ElementsDiffer : List AttributeValue → Type 0
ElementsDiffer vs = list_all (λ b. b) (map keys_differ vs) ≡ true

abbrev pub EntriesDiffer : List (String Global × AttributeValue) → Type 0
EntriesDiffer es = entries_differ (map (λ e. (e.0, keys_differ e.1)) es) ≡ true

abbrev pub ItemKeysDiffer : Item → Type 0
ItemKeysDiffer item = EntriesDiffer (map_of item).entries
