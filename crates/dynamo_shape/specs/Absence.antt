-- What a missing field of a struct is read as, and which fields are left out.
use Rattle.std.specs.Prelude.{List, ℕ, Bool, true, false, ◌&&◌, bytes_eq, if◌then◌else◌}
use Rattle.dynamo_ser.specs.Datum as datum
use Rattle.dynamo_ser.specs.Datum.{Datum, Fields}
use Rattle.dynamo_shape.specs.SameKey.{same_key}

-- A required field is in every datum. If it is missing, an option is none, and any other field is refused. A field with a
-- default is read as the default if it is missing. A field that is left out is so, too, and it is in a datum exactly if it
-- doesn't hold its default.
pub data Absence : Type 0 where
  required : Absence
  read_as : Datum → Absence
  left_out : Datum → Absence

-- whether a datum is this default: none, an empty list or map, a scalar, a unit variant, or a newtype over one
abbrev pub same_default : Datum → Datum → Bool
same_default datum.none datum.none = true
same_default (datum.seq datum.no_elements) (datum.seq datum.no_elements) = true
same_default (datum.map datum.no_pairs) (datum.map datum.no_pairs) = true
same_default (datum.newtype_struct name d) (datum.newtype_struct other e) = bytes_eq name other && same_default d e
same_default d e = same_key d e

abbrev pub is_left_out : Absence → Datum → Bool
is_left_out required e = false
is_left_out (read_as d) e = false
is_left_out (left_out d) e = same_default d e

-- the fields with this one in front, unless it is left out
abbrev pub put_field : List ℕ → Absence → Datum → Fields → Fields
put_field name absence e gs = if is_left_out absence e then gs else datum.field name e gs
