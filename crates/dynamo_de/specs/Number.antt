-- Number texts: which texts are integers of a kind, which are floats, and which are numbers at all.
use Rattle.std.specs.Prelude.{ℕ, ℤ, pos, negsuc, ◌+◌, ◌^◌, ◌&&◌, ◌||◌, ◌==◌, nat_lt, Bool, true, false, List, [], ◌∷◌, length, drop, map, Option, Some, None, if◌then◌else◌, is_some, codes, bytes_eq}
use Rattle.std.specs.Char.{is_ascii_digit, to_ascii_lowercase}
use Rattle.std.specs.List.{prefix_len}
use Rattle.std.specs.Str.Parse.{without_leading_plus, without_leading_sign, signed_digits_value, digits_value}
use Rattle.std.specs.Str.{all_ascii_digits}
use Rattle.dynamo_value.specs.Integer.{IntegerKind, i8, i16, i32, i64, i128, u8, u16, u32, u64, u128}

abbrev pub is_signed : IntegerKind → Bool
is_signed i8 = true
is_signed i16 = true
is_signed i32 = true
is_signed i64 = true
is_signed i128 = true
is_signed _ = false

-- the bits of a kind without that of the sign
abbrev pub value_bits : IntegerKind → ℕ
value_bits i8 = 7
value_bits i16 = 15
value_bits i32 = 31
value_bits i64 = 63
value_bits i128 = 127
value_bits u8 = 8
value_bits u16 = 16
value_bits u32 = 32
value_bits u64 = 64
value_bits u128 = 128

-- the integer is in the kind's range
abbrev pub fits : IntegerKind → ℤ → Bool
fits k (pos n) = nat_lt n (2 ^ value_bits k)
fits k (negsuc n) = is_signed k && nat_lt n (2 ^ value_bits k)

-- one ASCII digit or more
abbrev pub is_numeral : List ℕ → Bool
is_numeral digits = nat_lt 0 (length digits) && all_ascii_digits digits

abbrev pub in_range : IntegerKind → List ℕ → ℤ → Option ℤ
in_range k digits z = if is_numeral digits && fits k z then Some z else None

-- The integer of a text: an optional `+`, or for signed kinds an optional `+` or `-`, then one digit or more, with a value
-- in the kind's range. `-0` is no text of an unsigned kind.
abbrev pub parse : IntegerKind → List ℕ → Option ℤ
parse k t = if is_signed k then in_range k (without_leading_sign t) (signed_digits_value 10 t) else in_range k (without_leading_plus t) (pos (digits_value 10 (without_leading_plus t)))

-- an optional exponent: `e`, an optional sign, digits
abbrev pub is_exponent : List ℕ → Bool
is_exponent [] = true
is_exponent (c ∷ cs) = (c == 101) && is_numeral (without_leading_sign cs)

-- what comes after n digits: a point, with digits before or after it, and an exponent
abbrev pub is_rest : ℕ → List ℕ → Bool
is_rest n [] = nat_lt 0 n
is_rest n (c ∷ cs) =
    if c == 46
    then nat_lt 0 (n + prefix_len is_ascii_digit cs) && is_exponent (drop (prefix_len is_ascii_digit cs) cs)
    else nat_lt 0 n && is_exponent (c ∷ cs)

abbrev pub is_float_body : List ℕ → Bool
is_float_body t = bytes_eq t (codes "inf") || bytes_eq t (codes "infinity") || bytes_eq t (codes "nan") || is_rest (prefix_len is_ascii_digit t) (drop (prefix_len is_ascii_digit t) t)

-- A float's text, letters in either case: an optional `+` or `-`, then `inf`, `infinity`, `nan` or a number. A number is
-- digits, digits `.` optional digits, or optional digits `.` digits, and then perhaps an exponent.
abbrev pub is_float_text : List ℕ → Bool
is_float_text t = is_float_body (map to_ascii_lowercase (without_leading_sign t))

-- a number whose kind nobody asks for: an i64, else a u64, else a float
abbrev pub is_number_text : List ℕ → Bool
is_number_text t = is_some (parse i64 t) || is_some (parse u64 t) || is_float_text t
