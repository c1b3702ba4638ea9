-- The age that a text stands for: a u8 as Rust reads it, an optional plus sign and one or more
-- digits.
use Rattle.std.specs.Prelude.{ℕ, ◌&&◌, nat_lt, List, length, Option, Some, None, if◌then◌else◌}
use Rattle.std.specs.Str.{all_ascii_digits}
use Rattle.std.specs.Str.Parse.{without_leading_plus, digits_value}

-- the value of the digits, of which there is one at least, where it is below 256
abbrev pub age_in : List ℕ → Option ℕ
age_in digits = if nat_lt 0 (length digits) && all_ascii_digits digits
    && nat_lt (digits_value 10 digits) 256 then Some (digits_value 10 digits) else None

abbrev pub age_of : List ℕ → Option ℕ
age_of text = age_in (without_leading_plus text)
