-- Worked rows of plain JSON, by computation.
use Rattle.std.proofs.Common.{◌≡◌, ℕ, ◌-◌, ◌^◌, pos, negsuc, [], ◌∷◌, Ok, Err, refl}
use Rattle.dynamo_json.proofs.Common.{codes, Data, message, key_must_be_a_string, Datum, variant}
use Rattle.dynamo_json.proofs.Common.{plain}
use Rattle.std.specs.Fmt.{digits}
use Rattle.serde_json.specs.Data as json
use Rattle.dynamo_value.specs.Av as av
use Rattle.dynamo_ser.specs.Datum as datum
use Rattle.std.specs.Char.{encode_utf8}
use Rattle.dynamo_ser.specs.Symbols.{strings, symbol}
use Rattle.dynamo_json.specs.ViaJson.{via_json}

abbrev byte : ℕ → Datum
byte n = datum.integer datum.u8 (pos n)

abbrev two_bytes : datum.Elements
two_bytes = datum.element (byte 1) (datum.element (byte 2) datum.no_elements)

abbrev number : ℕ → Data
number n = json.number (json.unsigned n)

nulls : (plain datum.none ≡ Ok json.null) × (plain datum.unit ≡ Ok json.null) × (plain (datum.unit_struct (codes "Unit")) ≡ Ok json.null) × (plain (datum.some (byte 1)) ≡ Ok (number 1))
nulls = (refl, refl, refl, refl)

character : plain (datum.char 0x1F973) ≡ Ok (json.string (0xF0 ∷ 0x9F ∷ 0xA5 ∷ 0xB3 ∷ []))
unfolding encode_utf8
character = refl

-- the widest integers that JSON has, and those beyond
integers : (plain (datum.integer datum.i128 (negsuc (2 ^ 63 - 1))) ≡ Ok (json.number (json.negative (negsuc (2 ^ 63 - 1)))))
    × (plain (datum.integer datum.i128 (negsuc (2 ^ 63))) ≡ Err (message (codes "number out of range")))
    × (plain (datum.integer datum.u128 (pos (2 ^ 64 - 1))) ≡ Ok (number (2 ^ 64 - 1)))
    × (plain (datum.integer datum.u128 (pos (2 ^ 64))) ≡ Err (message (codes "number out of range")))
integers = (refl, refl, refl, refl)

bytes : plain (datum.bytes (1 ∷ 2 ∷ [])) ≡ Ok (json.array (json.item (number 1) (json.item (number 2) json.no_items)))
bytes = refl

variants : (plain (datum.unit_variant (variant (codes "Event") 0 (codes "Unit"))) ≡ Ok (json.string (codes "Unit")))
    × (plain (datum.newtype_variant (variant (codes "Event") 1 (codes "Newtype")) (byte 1)) ≡ Ok (json.object (json.member (codes "Newtype") (number 1) json.no_members)))
    × (plain (datum.tuple_variant (variant (codes "Event") 2 (codes "Tuple")) two_bytes)
    ≡ Ok (json.object (json.member (codes "Tuple") (json.array (json.item (number 1) (json.item (number 2) json.no_items))) json.no_members)))
    × (plain (datum.struct_variant (variant (codes "Event") 3 (codes "Structy")) (datum.field (codes "one") (byte 1) datum.no_fields))
    ≡ Ok (json.object (json.member (codes "Structy") (json.object (json.member (codes "one") (number 1) json.no_members)) json.no_members)))
variants = (refl, refl, refl, refl)

-- members come in the order of their names; of equal names the last value stays
members : plain (datum.map (datum.pair (byte 2) (byte 1) (datum.pair (byte 1) (byte 2) (datum.pair (datum.string (codes "2")) (byte 3) datum.no_pairs))))
    ≡ Ok (json.object (json.member (codes "1") (number 2) (json.member (codes "2") (number 3) json.no_members)))
unfolding digits
members = refl

-- in a pair the key's fault comes before the value's, in a struct the first field's
faults : (plain (datum.map (datum.pair (datum.seq datum.no_elements) (datum.refuse (codes "no")) datum.no_pairs)) ≡ Err key_must_be_a_string)
    × (plain (datum.struct (codes "Two") (datum.field (codes "b") (datum.refuse (codes "first")) (datum.field (codes "a") (datum.refuse (codes "second")) datum.no_fields))) ≡ Err (message (codes "first")))
faults = (refl, refl)

-- byte strings and sets become lists on the way through JSON
lists : (via_json (datum.bytes (1 ∷ 2 ∷ [])) ≡ Ok (av.L (av.element (av.N (codes "1")) (av.element (av.N (codes "2")) av.no_elements))))
    × (via_json (datum.newtype_struct (symbol strings) (datum.seq (datum.element (datum.string (codes "a")) datum.no_elements))) ≡ Ok (av.L (av.element (av.S (codes "a")) av.no_elements)))
    × (via_json (datum.integer datum.i128 (pos 5)) ≡ Ok (av.N (codes "5")))
unfolding digits
lists = (refl, refl, refl)
