-- What a JSON value tells is what its parts tell, one level at a time.
use Rattle.std.proofs.Common.{◌≡◌, Result, inl, inr, List, [], ◌∷◌, map, Vec, BTreeMap, String, string_bytes, Global, refl, ap, ◌∙◌}
use Rattle.serde_json.specs.View.{view, items_view, members_view}
use Rattle.serde_json.specs.declared.value.Value.{Value, Array, Object}
use Rattle.serde_json.proofs.Views.{view-Array, view-Object}
use Rattle.dynamo_value.specs.Fault.{Fault}
use Rattle.dynamo_ser.specs.Datum as datum
use Rattle.dynamo_ser.specs.Datum.{Datum}
use Rattle.dynamo_ser.specs.JsonValue.{json_datum, json_elements, json_pairs}
use Rattle.dynamo_ser.specs.Writes.{Writes}

elements_told : (vs : List Value) → json_elements (items_view vs) ≡ datum.elements_of (map (λ v. json_datum (view v)) vs)
elements_told [] = refl
elements_told (v ∷ vs) = ap (datum.element (json_datum (view v))) (elements_told vs)

pairs_told : (es : List (String Global × Value))
    → json_pairs (members_view es) ≡ datum.pairs_of (map {B = Datum × Datum} (λ e. (datum.string (string_bytes e.0), json_datum (view e.1))) es)
pairs_told [] = refl
pairs_told (e ∷ es) = ap (datum.pair (datum.string (string_bytes e.0)) (json_datum (view e.1))) (pairs_told es)

pub array_told : (v : Value) (items : Vec Value Global) → v ≡ Array items
    → json_datum (view v) ≡ datum.seq (datum.elements_of (map (λ w. json_datum (view w)) items.items))
array_told v items is = ap (λ w. json_datum (view w)) is ∙ ap json_datum (view-Array items) ∙ ap datum.seq (elements_told items.items)

pub object_told : (v : Value) (members : BTreeMap (String Global) Value) → v ≡ Object members
    → json_datum (view v) ≡ datum.map (datum.pairs_of (map {B = Datum × Datum} (λ e. (datum.string (string_bytes e.0), json_datum (view e.1))) members.entries))
object_told v members is = ap (λ w. json_datum (view w)) is ∙ ap json_datum (view-Object members) ∙ ap datum.map (pairs_told members.entries)

-- a list and a map want no memory of their own
pub wants_nothing : {A E : Type 0} (fault : E → Fault) (outcome : Datum → Result A E → Type 0) (d : Datum) (r : Result A E) {wants : Type 0}
    → Writes fault ⊥ outcome d r → Writes fault wants outcome d r
wants_nothing fault outcome d r writes = elim writes [ inl answer ↦ inl answer | inr lacks ↦ absurd lacks.0 ]
