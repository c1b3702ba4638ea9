-- Worked rows of what a JSON value reads, by computing.
use Rattle.std.proofs.Common.{◌≡◌, ◌-◌, ◌^◌, negsuc, true, false, [], ◌∷◌, refl}
use Rattle.std.specs.Prelude.{codes}
use Rattle.serde_json.specs.Data as json
use Rattle.dynamo_value.specs.Av as av
use Rattle.dynamo_value.specs.Fault.{failed_to_parse_float, expected_unit}
use Rattle.dynamo_de.specs.Answer as answer
use Rattle.dynamo_de.specs.ReadJson.{read_json}
use Rattle.dynamo_de.specs.Source.{attribute, plain_text, number_text, byte_string}

-- whole numbers of 64 bits are read by their value; a float, a wider number and a text are no such numbers
numbers : (read_json (attribute (av.N (codes "+5"))) ≡ answer.value (json.number (json.unsigned 5)))
    × (read_json (attribute (av.N (codes "-0"))) ≡ answer.value (json.number (json.unsigned 0)))
    × (read_json (attribute (av.N (codes "-9223372036854775808"))) ≡ answer.value (json.number (json.negative (negsuc (2 ^ 63 - 1)))))
    × (read_json (attribute (av.N (codes "18446744073709551615"))) ≡ answer.value (json.number (json.unsigned (2 ^ 64 - 1))))
    × (read_json (attribute (av.N (codes "18446744073709551616"))) ≡ answer.refused)
    × (read_json (attribute (av.N (codes "1.5"))) ≡ answer.refused)
    × (read_json (number_text (codes "abc")) ≡ answer.fault (failed_to_parse_float (codes "abc")))
    × (read_json (attribute (av.S (codes "1"))) ≡ answer.value (json.string (codes "1")))
numbers = (refl, refl, refl, refl, refl, refl, refl, refl)

others : (read_json (attribute (av.Null true)) ≡ answer.value json.null)
    × (read_json (attribute (av.Null false)) ≡ answer.fault expected_unit)
    × (read_json (attribute (av.B (1 ∷ []))) ≡ answer.refused)
    × (read_json (attribute (av.Bs [])) ≡ answer.value (json.array json.no_items))
    × (read_json (byte_string []) ≡ answer.refused)
    × (read_json (plain_text (codes "a")) ≡ answer.value (json.string (codes "a")))
others = (refl, refl, refl, refl, refl, refl)

-- the first fault is the fault, in the order of the keys
nested : (read_json (attribute (av.M (av.member (codes "a") (av.L (av.element (av.N (codes "1")) (av.element (av.Null true) av.no_elements))) av.no_members)))
    ≡ answer.value (json.object (json.member (codes "a") (json.array (json.item (json.number (json.unsigned 1)) (json.item json.null json.no_items))) json.no_members)))
    × (read_json (attribute (av.M (av.member (codes "a") (av.Null false) (av.member (codes "b") (av.B []) av.no_members)))) ≡ answer.fault expected_unit)
nested = (refl, refl)
