-- Worked rows of what is written, by computation.
use Rattle.std.proofs.Common.{◌≡◌, ℕ, ◌-◌, ◌^◌, pos, negsuc, true, [], ◌∷◌, Ok, Err, refl}
use Rattle.std.specs.Prelude.{codes}
use Rattle.std.specs.Char.{encode_utf8}
use Rattle.std.specs.Fmt.{digits}
use Rattle.dynamo_value.specs.Av as av
use Rattle.dynamo_value.specs.Fault.{key_must_be_a_string, not_setlike, number_set_expected_type}
use Rattle.dynamo_ser.specs.Datum as datum
use Rattle.dynamo_ser.specs.Datum.{Datum, variant}
use Rattle.dynamo_ser.specs.Symbols.{strings, numbers, symbol}
use Rattle.dynamo_write.specs.Written.{written}

abbrev byte : ℕ → Datum
byte n = datum.integer datum.u8 (pos n)

null_and_some : (written datum.unit ≡ Ok (av.Null true)) × (written (datum.some (byte 1)) ≡ Ok (av.N (codes "1")))
unfolding digits
null_and_some = (refl, refl)

character : written (datum.char 0x1F973) ≡ Ok (av.S (0xF0 ∷ 0x9F ∷ 0xA5 ∷ 0xB3 ∷ []))
unfolding encode_utf8
character = refl

extremes : (written (datum.integer datum.i64 (negsuc (2 ^ 63 - 1))) ≡ Ok (av.N (codes "-9223372036854775808")))
    × (written (datum.integer datum.u64 (pos (2 ^ 64 - 1))) ≡ Ok (av.N (codes "18446744073709551615")))
unfolding digits
extremes = (refl, refl)

-- members come in the order of their keys
map : written (datum.map (datum.pair (byte 2) (datum.string (codes "2")) (datum.pair (byte 1) (datum.string (codes "1")) datum.no_pairs)))
    ≡ Ok (av.M (av.member (codes "1") (av.S (codes "1")) (av.member (codes "2") (av.S (codes "2")) av.no_members)))
unfolding digits
map = refl

-- a newtype variant is no key
key : written (datum.map (datum.pair (datum.newtype_variant (variant (codes "Event") 1 (codes "Newtype")) (byte 5)) datum.unit datum.no_pairs)) ≡ Err key_must_be_a_string
unfolding digits
key = refl

tuple_variant : written (datum.tuple_variant (variant (codes "Event") 2 (codes "Tuple")) (datum.element (byte 1) (datum.element (byte 2) datum.no_elements)))
    ≡ Ok (av.M (av.member (codes "Tuple") (av.L (av.element (av.N (codes "1")) (av.element (av.N (codes "2")) av.no_elements))) av.no_members))
unfolding digits
tuple_variant = refl

-- duplicates are kept; what is no list, a set among it, is no set; a text is no number
sets : (written (datum.newtype_struct (symbol strings) (datum.seq (datum.element (datum.string (codes "a")) (datum.element (datum.string (codes "a")) datum.no_elements))))
    ≡ Ok (av.Ss (codes "a" ∷ codes "a" ∷ [])))
    × (written (datum.newtype_struct (symbol strings) (byte 5)) ≡ Err not_setlike)
    × (written (datum.newtype_struct (symbol strings) (datum.newtype_struct (symbol strings) (datum.seq datum.no_elements))) ≡ Err not_setlike)
    × (written (datum.newtype_struct (symbol numbers) (datum.seq (datum.element (datum.string (codes "x")) datum.no_elements))) ≡ Err number_set_expected_type)
unfolding digits
sets = (refl, refl, refl, refl)

-- of equal names the last value stays
twice : written (datum.struct (codes "Twice") (datum.field (codes "a") (byte 1) (datum.field (codes "a") (byte 2) datum.no_fields)))
    ≡ Ok (av.M (av.member (codes "a") (av.N (codes "2")) av.no_members))
unfolding digits
twice = refl
