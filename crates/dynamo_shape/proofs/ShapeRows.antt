-- Worked rows of what conforms, what is kept, and which shapes are clear, by computation.
use Rattle.std.proofs.Common.{◌≡◌, pos, refl, inl, inr}
use Rattle.dynamo_shape.proofs.Common.{codes, true≢false, Datum, strings, numbers, symbol, left_out}
use Rattle.dynamo_shape.proofs.Common.{IsKey, IsElement, NearlyClear, NearlyClearFields, NoneNested}
use Rattle.dynamo_shape.proofs.Common.{conforms, conform_fields, kept, Same, put_pair, boolean}
use Rattle.dynamo_shape.proofs.Common.{char, string, unit, integer, option, newtype, list, set}
use Rattle.dynamo_shape.proofs.Common.{enum, nothing, one, no_variants, variant, FieldShapes}
use Rattle.dynamo_shape.proofs.Common.{no_field_shapes, field_shape, tagged, no_tagged}
use Rattle.dynamo_shape.proofs.Common.{tagged_variant, u8, u64}
use Rattle.dynamo_ser.specs.Datum as datum
use Rattle.dynamo_shape.proofs.FieldsTold.{told_alone}

abbrev seven : Datum
seven = datum.integer u8 (pos 7)

-- some of null is none; some of anything else stays, and so does what is inside of it
what_is_kept : (kept (datum.some datum.none) ≡ datum.none) × (kept (datum.some datum.unit) ≡ datum.none) × (kept (datum.some (datum.newtype_struct (codes "Unit") datum.unit)) ≡ datum.none) × (kept (datum.some seven) ≡ datum.some seven)
    × (kept (datum.seq (datum.element (datum.some datum.unit) datum.no_elements)) ≡ datum.seq (datum.element datum.none datum.no_elements))
what_is_kept = (refl, refl, refl, refl, refl)

conforming : conforms (integer u8) seven × conforms (option (integer u8)) datum.none × conforms (option (integer u8)) (datum.some seven) × conforms (set numbers (integer u8)) (datum.newtype_struct (symbol numbers) (datum.seq (datum.element seven datum.no_elements)))
conforming = ((pos 7, refl, refl), inl refl, inr (seven, refl, (pos 7, refl, refl)), (datum.element seven datum.no_elements, refl, ((pos 7, refl, refl), tt)))

-- an option over what may be null nests none; over anything else it doesn't
nested : (NoneNested (option (option boolean)) → ⊥) × (NoneNested (list (option unit)) → ⊥) × NoneNested (option (list unit))
nested = (λ h. h.0 tt, λ h. h.0 tt, ((λ n. n), tt))

key_shapes : IsKey (newtype (codes "Id") (integer u64)) × IsKey (enum (codes "Kind") (variant (codes "A") nothing (variant (codes "B") nothing no_variants))) × (IsKey (list char) → ⊥) × (IsKey (enum (codes "Kind") (variant (codes "A") (one char) no_variants)) → ⊥)
key_shapes = ((refl, tt), (refl, (refl, tt)), (λ h. h), (λ h. h))

element_shapes : IsElement strings string × IsElement numbers (integer u8) × (IsElement strings (newtype (codes "Name") string) → ⊥) × (IsElement numbers string → ⊥)
element_shapes = (tt, tt, (λ h. h), (λ h. h))

-- a newtype named by the symbol of a set is not clear, nor are two variants of one name
unclear : (NearlyClear (newtype (symbol strings) string) → ⊥) × (NearlyClear (enum (codes "E") (variant (codes "A") nothing (variant (codes "A") nothing no_variants))) → ⊥)
unclear = ((λ h. cc), (λ h. cc))

-- a pair is put in the place of its key, or last
abbrev pairs : datum.Pairs
pairs = datum.pair seven datum.unit (datum.pair (datum.char 97) datum.unit datum.no_pairs)

put_in_place : (put_pair (datum.char 97) datum.none pairs ≡ datum.pair seven datum.unit (datum.pair (datum.char 97) datum.none datum.no_pairs))
    × (put_pair (datum.integer u64 (pos 7)) datum.none pairs ≡ datum.pair seven datum.unit (datum.pair (datum.char 97) datum.unit (datum.pair (datum.integer u64 (pos 7)) datum.none datum.no_pairs)))
put_in_place = (refl, refl)

-- maps are the same in whatever order, lists are not
abbrev swapped : datum.Pairs
swapped = datum.pair (datum.char 97) datum.unit (datum.pair seven datum.unit datum.no_pairs)

same_in_order : Same (datum.map pairs) (datum.map swapped)
same_in_order = (swapped, refl, (seven, datum.unit, datum.pair (datum.char 97) datum.unit datum.no_pairs, inr (datum.no_pairs, refl, inl (refl, refl, refl)), refl, refl, (datum.char 97, datum.unit, datum.no_pairs, inl (refl, refl, refl), refl, refl, refl)))

-- a field that may be left out is left out exactly where it is the default
abbrev text_field : FieldShapes
text_field = field_shape (codes "text") (option string) (left_out datum.none) no_field_shapes

abbrev note_fields : FieldShapes
note_fields = field_shape (codes "stars") (integer u8) (left_out (datum.integer u8 (pos 0))) text_field

left_out_conforming : conform_fields note_fields datum.no_fields × conform_fields note_fields (datum.field (codes "stars") seven datum.no_fields) × (conform_fields note_fields (datum.field (codes "stars") (datum.integer u8 (pos 0)) datum.no_fields) → ⊥)
left_out_conforming = (
  (datum.integer u8 (pos 0), datum.no_fields, refl, (pos 0, refl, refl), (datum.none, datum.no_fields, refl, inl refl, refl)),
  (seven, datum.no_fields, refl, (pos 7, refl, refl), (datum.none, datum.no_fields, refl, inl refl, refl)),
  λ c. true≢false (told_alone (codes "stars") (integer u8) (left_out (datum.integer u8 (pos 0))) text_field refl (datum.integer u8 (pos 0)) datum.no_fields c),
)

-- an option over what may be null is not left out for none, since some of null is not left out and reads back as none
clear_fields : NearlyClearFields note_fields × (NearlyClearFields (field_shape (codes "text") (option (option string)) (left_out datum.none) no_field_shapes) → ⊥)
clear_fields = ((refl, (tt, tt), (refl, (tt, λ h. h), tt)), λ h. h.1.1 tt)

-- a tag is none of the fields of its variants
tags : NearlyClear (tagged (codes "kind") (tagged_variant (codes "Note") (codes "Note") note_fields no_tagged)) × (NearlyClear (tagged (codes "text") (tagged_variant (codes "Note") (codes "Note") note_fields no_tagged)) → ⊥)
tags = ((refl, refl, clear_fields.0, tt), λ h. cc)
