-- How deep the lists and maps of an item nest. DynamoDB keeps items of at most 32 levels.
use Rattle.std.specs.Prelude.{◌≡◌, ◌&&◌, ◌-◌, ℕ, Bool, true, List, String, map, Result, Ok, Err}
use Rattle.std.specs.Prelude.{MatchResult, if◌then◌else◌, nat_lt, ⊤}
use Rattle.std.specs.List.{list_all}
use Rattle.std.specs.declared.alloc.Global.{Global}
use Rattle.dynamo_value.specs.Item.{map_of}
use Rattle.dynamo_value.specs.declared.attribute_value.AttributeValue.{AttributeValue}
use Rattle.dynamo_value.specs.declared.attribute_value.AttributeValue.{fold-AttributeValue}
use Rattle.dynamo_value.specs.declared.attribute_value.AttributeValue.TheOpen.{AttributeValue-F}
use Rattle.dynamo_value.specs.declared.item.Item.{Item}
use Rattle.table_keys.specs.KeyOf.{ReadsKey}
use Rattle.table_keys.specs.declared.error.TableError.{TableError}
use Rattle.table_keys.specs.declared.key.Key.{Key}
use Rattle.table_keys.specs.declared.schema.KeySchema.{KeySchema}
use Rattle.table_store.specs.Errors.{of_table}
use Rattle.table_store.specs.declared.error.StoreError.{StoreError}

-- A list or a map takes one of the levels, and its parts nest within the others. Nothing else takes
-- one.
abbrev pub nests_step : AttributeValue-F (ℕ → Bool) → ℕ → Bool
nests_step (AttributeValue-F.M members) levels = nat_lt 0 levels
    && list_all (λ (e : String Global × (ℕ → Bool)). e.1 (levels - 1)) members.entries
nests_step (AttributeValue-F.L values) levels = nat_lt 0 levels
    && list_all (λ within. within (levels - 1)) values.items
nests_step _ levels = true

-- whether a value has at most so many levels of lists and maps
abbrev pub nests_within : AttributeValue → ℕ → Bool
nests_within = fold-AttributeValue (ℕ → Bool) nests_step

-- the same of each value of a list, and of each value of a map
abbrev pub values_within : ℕ → List AttributeValue → Bool
values_within levels values = list_all (λ within. within levels) (map nests_within values)

abbrev pub entries_within : ℕ → List (String Global × AttributeValue) → Bool
entries_within levels entries = list_all (λ (e : String Global × (ℕ → Bool)). e.1 levels)
    (map (λ e. (e.0, nests_within e.1)) entries)

-- whether each attribute of an item has at most 32 levels
abbrev pub is_kept : Item → Bool
is_kept item = entries_within 32 (map_of item).entries

-- An item is refused by the error of its key, if that can't be read, and else exactly if it nests
-- too deep.
abbrev pub Checked : KeySchema → Item → Result ⊤ StoreError → Type 0
Checked schema item r =
    (key : Result Key TableError) × ReadsKey schema item key × MatchResult key
    (λ _. r ≡ (if is_kept item then Ok tt else Err StoreError.TooDeep)) (λ error. r ≡ Err (of_table error))

-- what is put nests no deeper than that
abbrev pub IsKept : Item → Type 0
IsKept item = is_kept item ≡ true
