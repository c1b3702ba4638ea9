-- Which of two keys that were read are equal, by computation.
use Rattle.std.specs.Prelude.{ℤ, pos, negsuc, Bool, true, false, ◌==◌, ◌&&◌, not, if◌then◌else◌, bytes_eq}
use Rattle.dynamo_value.specs.Integer.{IntegerKind, i8, i16, i32, i64, i128, u8, u16, u32, u64, u128}
use Rattle.dynamo_ser.specs.Datum as datum
use Rattle.dynamo_ser.specs.Datum.{Datum, Pairs, Variant}

abbrev pub same_kind : IntegerKind → IntegerKind → Bool
same_kind i8 i8 = true
same_kind i16 i16 = true
same_kind i32 i32 = true
same_kind i64 i64 = true
same_kind i128 i128 = true
same_kind u8 u8 = true
same_kind u16 u16 = true
same_kind u32 u32 = true
same_kind u64 u64 = true
same_kind u128 u128 = true
same_kind _ _ = false

abbrev pub same_integer : ℤ → ℤ → Bool
same_integer (pos m) (pos n) = m == n
same_integer (negsuc m) (negsuc n) = m == n
same_integer _ _ = false

abbrev pub same_bool : Bool → Bool → Bool
same_bool true c = c
same_bool false c = not c

abbrev pub same_variant : Variant → Variant → Bool
same_variant v w = bytes_eq v.enum w.enum && (v.index == w.index) && bytes_eq v.name w.name

abbrev pub same_key : Datum → Datum → Bool
same_key (datum.boolean b) (datum.boolean c) = same_bool b c
same_key (datum.integer k y) (datum.integer j z) = same_kind k j && same_integer y z
same_key (datum.char c) (datum.char e) = c == e
same_key (datum.string t) (datum.string u) = bytes_eq t u
same_key (datum.bytes t) (datum.bytes u) = bytes_eq t u
same_key (datum.unit_variant v) (datum.unit_variant w) = same_variant v w
same_key (datum.newtype_struct name l) (datum.newtype_struct other m) = bytes_eq name other && same_key l m
same_key _ _ = false

-- the pairs with this one: in the place of its key, or last
abbrev pub put_pair : Datum → Datum → Pairs → Pairs
put_pair l e datum.no_pairs = datum.pair l e datum.no_pairs
put_pair l e (datum.pair k d ps) = if same_key l k then datum.pair k e ps else datum.pair k d (put_pair l e ps)
