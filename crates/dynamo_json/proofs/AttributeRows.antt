-- Worked rows of attribute values and items that are written as values of a program, by computation.
use Rattle.std.proofs.Common.{◌≡◌, ℕ, List, false, [], ◌∷◌, Ok, refl, inl, inr}
use Rattle.dynamo_json.proofs.Common.{codes, Data, Av, Members, Datum, one_member, written, strings}
use Rattle.dynamo_json.proofs.Common.{Tells, ItemTells, json_of, item_json, plain}
use Rattle.serde_json.specs.Data as json
use Rattle.dynamo_value.specs.Av as av
use Rattle.dynamo_value.specs.Prefix as prefix
use Rattle.dynamo_ser.specs.Datum as datum
use Rattle.base64.proofs.OnLiterals.{base64_on_literals}
use Rattle.dynamo_ser.specs.AttributeDatum.{under}
use Rattle.dynamo_de.specs.ReadAttribute.{read_attribute, read_item}

-- it tells the datum, that is written as e and read back, and its plain JSON is j
abbrev Row : Av → Datum → Av → Data → Type 0
Row a d e j = Tells a d × (written d ≡ Ok e) × (read_attribute e ≡ Ok a) × (plain d ≡ Ok j) × (json_of a ≡ j)

abbrev one : List ℕ → Data → Data
one key content = json.object (json.member key content json.no_members)

-- null keeps its flag
null : Row (av.Null false) (under prefix.Null (datum.boolean false)) (one_member (codes "NULL") (av.Boolean false)) (one (codes "NULL") (json.boolean false))
null = (refl, refl, refl, refl, refl)

empty_set : Row (av.Ss []) (under prefix.Ss (datum.seq (strings []))) (one_member (codes "SS") (av.L av.no_elements)) (one (codes "SS") (json.array json.no_items))
empty_set = (refl, refl, refl, refl, refl)

bytes : Row (av.B (1 ∷ 2 ∷ [])) (under prefix.B (datum.string (codes "AQI="))) (one_member (codes "B") (av.S (codes "AQI="))) (one (codes "B") (json.string (codes "AQI=")))
unfolding base64_on_literals
bytes = (refl, refl, refl, refl, refl)

-- ---- items

abbrev ItemRow : Members → Datum → Av → Data → Type 0
ItemRow ms d e j = ItemTells ms d × (written d ≡ Ok e) × (read_item e ≡ Ok ms) × (plain d ≡ Ok j) × (item_json ms ≡ j)

abbrev number : List ℕ → Datum
number text = under prefix.N (datum.string text)

abbrev number_form : List ℕ → Av
number_form text = one_member (codes "N") (av.S text)

item : ItemRow (av.member (codes "a") (av.N (codes "1")) av.no_members)
    (datum.map (datum.pair (datum.string (codes "a")) (number (codes "1")) datum.no_pairs))
    (one_member (codes "a") (number_form (codes "1")))
    (one (codes "a") (one (codes "N") (json.string (codes "1"))))
item = ((_, refl, (_, _, inl (refl, refl, refl), refl, refl)), refl, refl, refl, refl)

-- told in another order than that of the keys
two_attributes : ItemRow (av.member (codes "a") (av.N (codes "1")) (av.member (codes "b") (av.N (codes "2")) av.no_members))
    (datum.map (datum.pair (datum.string (codes "b")) (number (codes "2")) (datum.pair (datum.string (codes "a")) (number (codes "1")) datum.no_pairs)))
    (av.M (av.member (codes "a") (number_form (codes "1")) (av.member (codes "b") (number_form (codes "2")) av.no_members)))
    (json.object (json.member (codes "a") (one (codes "N") (json.string (codes "1"))) (json.member (codes "b") (one (codes "N") (json.string (codes "2"))) json.no_members)))
two_attributes =
    ((_, refl, (_, _, inr (_, refl, inl (refl, refl, refl)), refl, (_, _, inl (refl, refl, refl), refl, refl))), refl, refl, refl, refl)
