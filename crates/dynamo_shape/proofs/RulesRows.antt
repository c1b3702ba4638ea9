-- Worked rows of a struct that is read by rules, by computation.
use Rattle.std.proofs.Common.{◌≡◌, true, false, [], ◌∷◌, refl}
use Rattle.dynamo_shape.proofs.Common.{codes, N, S, L, M, no_members, member, expected_string}
use Rattle.dynamo_shape.proofs.Common.{Datum, no_fields, field, value, fault, refused, Text}
use Rattle.dynamo_shape.proofs.Common.{attribute, required, NearlyClear, read, Shape, string}
use Rattle.dynamo_shape.proofs.Common.{option, struct_by, no_field_shapes, field_shape}
use Rattle.dynamo_value.specs.Av as av
use Rattle.dynamo_ser.specs.Datum as datum
use Rattle.std.specs.Prelude.{Bool}

-- a struct of an id and perhaps a phone number, which has this other name
abbrev contact : Text → Bool → Shape
contact other denies = struct_by (record { aliases = (other, codes "phone") ∷ []; denies = denies }) (codes "Contact") (field_shape (codes "id") string required (field_shape (codes "phone") (option string) required no_field_shapes))

abbrev strict : Shape
strict = contact (codes "tel") true

abbrev contact_of : Datum → Datum
contact_of phone = datum.struct (codes "Contact") (field (codes "id") (datum.string (codes "a")) (field (codes "phone") phone no_fields))

abbrev seven : Datum
seven = datum.some (datum.string (codes "7"))

-- under its own name, under the other one, under both, and under neither
one_field : (read strict (attribute (M (member (codes "id") (S (codes "a")) (member (codes "phone") (S (codes "7")) no_members)))) ≡ value (contact_of seven))
    × (read strict (attribute (M (member (codes "id") (S (codes "a")) (member (codes "tel") (S (codes "7")) no_members)))) ≡ value (contact_of seven))
    × (read strict (attribute (M (member (codes "id") (S (codes "a")) (member (codes "phone") (S (codes "7")) (member (codes "tel") (S (codes "7")) no_members))))) ≡ refused)
    × (read strict (attribute (M (member (codes "id") (S (codes "a")) no_members))) ≡ value (contact_of datum.none))
one_field = (refl, refl, refl, refl)

-- an entry of no field, and where it is ignored; the first fault is the fault; a list
other_entries : (read strict (attribute (M (member (codes "id") (S (codes "a")) (member (codes "zip") (S (codes "7")) no_members)))) ≡ refused)
    × (read (contact (codes "tel") false) (attribute (M (member (codes "id") (S (codes "a")) (member (codes "zip") (S (codes "7")) no_members)))) ≡ value (contact_of datum.none))
    × (read strict (attribute (M (member (codes "id") (N (codes "1")) (member (codes "zip") (S (codes "7")) no_members)))) ≡ fault expected_string)
    × (read strict (attribute (M (member (codes "city") (S (codes "7")) (member (codes "id") (N (codes "1")) no_members)))) ≡ refused)
    × (read strict (attribute (L (av.element (S (codes "a")) (av.element (S (codes "7")) av.no_elements)))) ≡ value (contact_of seven))
other_entries = (refl, refl, refl, refl, refl)

-- no other name is the own name of a field
clear_names : NearlyClear strict × (NearlyClear (contact (codes "id") true) → ⊥)
clear_names = (((refl, tt), (refl, tt, (refl, tt, tt))), λ h. cc)
