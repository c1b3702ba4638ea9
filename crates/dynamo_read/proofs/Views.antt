-- What is in a map or a list, and how much of it there is.
use Rattle.std.proofs.Common.{◌≡◌, List, [], ◌∷◌, length, map, Global, Vec, suc, refl, ap, ◌∙◌}
use Rattle.dynamo_value.proofs.Views.{view_list, view_map}
use Rattle.dynamo_value.specs.Av as av
use Rattle.dynamo_value.specs.Av.{members_of}
use Rattle.dynamo_value.specs.Item.{tables_view}
use Rattle.dynamo_value.specs.Table.{Table}
use Rattle.dynamo_value.specs.View.{view, elements_view}
use Rattle.dynamo_value.specs.declared.attribute_value.AttributeValue.{AttributeValue, L, M}
use Rattle.dynamo_de.specs.Answer as answer
use Rattle.dynamo_de.specs.Reading.{read_elements}
use Rattle.dynamo_de.specs.Source.{Entry, attribute, entries_of, values_of}

-- the entries of the members that entries make
pub entries_of_members : (es : List Entry) → entries_of (members_of es) ≡ es
entries_of_members [] = refl
entries_of_members (e ∷ es) = ap (λ fs. e ∷ fs) (entries_of_members es)

-- a list has as many sources as elements
pub length_values : (values : List AttributeValue) → length (values_of (elements_view values)) ≡ length values
length_values [] = refl
length_values (v ∷ vs) = ap suc (length_values vs)

-- the sources in a list of maps
maps_in : (tables : List Table) → values_of (elements_view (map M tables)) ≡ map (λ m. attribute (av.M m)) (tables_view tables)
maps_in [] = refl
maps_in (t ∷ ts) = λ i. attribute (view_map t i) ∷ maps_in ts i

-- what a list of maps is read as
pub elements_of_maps : (values : Vec AttributeValue Global) (tables : List Table) → values.items ≡ map (λ m. M m) tables
    → read_elements (attribute (view (L values))) ≡ answer.value (map (λ m. attribute (av.M m)) (tables_view tables))
elements_of_maps values tables are = ap (λ a. read_elements (attribute a)) (view_list values)
    ∙ ap answer.value (ap (λ vs. values_of (elements_view vs)) are ∙ maps_in tables)
