-- Worked rows of what an attribute value and an item read, by computing.
use Rattle.std.proofs.Common.{◌≡◌, ℕ, List, true, false, [], ◌∷◌, Ok, Err, refl}
use Rattle.std.specs.Prelude.{codes}
use Rattle.dynamo_value.specs.Av as av
use Rattle.dynamo_value.specs.Base64.{bytes_of_base64, not_base64}
use Rattle.dynamo_value.specs.Fault.{failed_to_parse_float, expected_map, expected_bool}
use Rattle.dynamo_value.specs.Refusal.{fault, any_message}
use Rattle.dynamo_value.specs.SingleKey.{no_key, several_keys, unknown_key}
use Rattle.dynamo_de.specs.Promises.{refuse}
use Rattle.dynamo_de.specs.ReadAttribute.{attribute_from, item_from}
use Rattle.dynamo_de.specs.Source.{Source, attribute, number_text}

-- a map of one entry
abbrev under : List ℕ → av.Av → Source
under key content = attribute (av.M (av.member key content av.no_members))

contents : (attribute_from (under (codes "SS") (av.Ss (codes "a" ∷ []))) ≡ Ok (av.Ss (codes "a" ∷ [])))
    × (attribute_from (under (codes "NULL") (av.Boolean false)) ≡ Ok (av.Null false))
    × (attribute_from (under (codes "L") (av.Ss [])) ≡ Ok (av.L av.no_elements))
    × (attribute_from (under (codes "NULL") (av.Null true)) ≡ refuse (fault expected_bool))
contents = (refl, refl, refl, refl)

-- what is no map, and a map that hasn't one entry
entries : (attribute_from (attribute (av.N (codes "1"))) ≡ refuse (fault expected_map))
    × (attribute_from (number_text (codes "x")) ≡ refuse (fault (failed_to_parse_float (codes "x"))))
    × (attribute_from (attribute (av.M av.no_members)) ≡ refuse no_key)
    × (attribute_from (attribute (av.M (av.member (codes "N") (av.S (codes "1")) (av.member (codes "X") (av.S (codes "1")) av.no_members))))
    ≡ Err (several_keys ∷ unknown_key (codes "X") ∷ []))
entries = (refl, refl, refl, refl)

unknown : attribute_from (under (codes "X") (av.S (codes "1"))) ≡ refuse (unknown_key (codes "X"))
unknown = refl

-- a text that is no base64 is refused as such, and so is a set that has one
blob : (t : List ℕ) → bytes_of_base64 t ≡ Err not_base64 → attribute_from (under (codes "B") (av.S t)) ≡ refuse not_base64
blob t e = rw e refl

blobs : (t : List ℕ) (ts : List (List ℕ)) → bytes_of_base64 t ≡ Err not_base64 → attribute_from (under (codes "BS") (av.Ss (t ∷ ts))) ≡ refuse not_base64
blobs t ts e = rw e refl

-- the elements of a set are no attribute values
set_in_list : attribute_from (under (codes "L") (av.Ss (codes "a" ∷ []))) ≡ refuse any_message
set_in_list = refl

-- an item is a map of attribute values
items : (item_from (under (codes "a") (av.M (av.member (codes "N") (av.S (codes "1")) av.no_members))) ≡ Ok (av.member (codes "a") (av.N (codes "1")) av.no_members))
    × (item_from (under (codes "N") (av.S (codes "1"))) ≡ refuse (fault expected_map))
    × (item_from (attribute (av.L av.no_elements)) ≡ refuse (fault expected_map))
items = (refl, refl, refl)
