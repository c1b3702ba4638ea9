-- What an attribute value that is a map tells, by its entries.
use Rattle.std.proofs.Common.{rules, ◌≡◌, List, [], ◌∷◌, map, String, Global, refl, ap, ◌∙◌}
use Rattle.dynamo_value.specs.Prefix as prefix
use Rattle.dynamo_value.specs.Table.{Table}
use Rattle.dynamo_value.specs.declared.attribute_value.AttributeValue.{AttributeValue, M, the_lemmas}
use Rattle.dynamo_ser.specs.AttributeDatum.{under, text_datum, map_of_pairs, attribute_datum}
use Rattle.dynamo_ser.specs.Datum as datum
use Rattle.dynamo_ser.specs.Datum.{Datum}

-- the entries with their values told, and with their keys told
abbrev values_told : List (String Global × AttributeValue) → List (String Global × Datum)
values_told es = map (λ e. (e.0, attribute_datum e.1)) es

abbrev keys_told : List (String Global × Datum) → List (Datum × Datum)
keys_told es = map (λ e. (text_datum e.0, e.1)) es

pub entries_told : (es : List (String Global × AttributeValue))
    → datum.pairs_of (keys_told (values_told es)) ≡ datum.pairs_of (map (λ e. (text_datum e.0, attribute_datum e.1)) es)
entries_told [] = refl
entries_told (e ∷ es) = ap (datum.pair (text_datum e.0) (attribute_datum e.1)) (entries_told es)

datum-M : (m : Table) → attribute_datum (M m) ≡ under prefix.M (map_of_pairs (keys_told (values_told m.entries)))
datum-M m = search (rules, the_lemmas)

pub map_told : (v : AttributeValue) (m : Table) → v ≡ M m
    → attribute_datum v ≡ under prefix.M (map_of_pairs (map (λ e. (text_datum e.0, attribute_datum e.1)) m.entries))
map_told v m is = ap attribute_datum is ∙ datum-M m ∙ ap (λ ps. under prefix.M (datum.map ps)) (entries_told m.entries)
