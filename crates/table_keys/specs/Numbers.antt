-- The numbers of DynamoDB: what a text says, which numbers are kept, and how they are seen.
use Rattle.std.specs.Prelude.{◌≡◌, ◌⊎◌, ℕ, ◌+◌, ◌*◌, ◌^◌, ◌<◌, ◌≤◌, ◌==◌, ◌++◌, ℤ, pos, neg_ℤ, Bool, List, length, if◌then◌else◌, nat_lt}
use Rattle.std.specs.Bool.{MatchBool}
use Rattle.std.specs.Int.RustNames.{FitsSigned}
use Rattle.std.specs.Int.{w32}
use Rattle.std.specs.List.{position_or_len, before_first, after_first}
use Rattle.std.specs.Str.Parse.{IsNumeral, digits_value, signed_digits_value, starts_with_minus, without_leading_sign}
use borrow.Author.Differences.{up, down}

-- A number is seen as the integer that is 10 ^ 167 times the number. A number that is kept is zero, or has at most 38 digits
-- that count and lies, without its sign, from 10 ^ -130 on and below 10 ^ 126: 38 digits, and then a power of ten.
abbrev pub IsKept : ℕ → Type 0
IsKept n = (n ≡ 0) ⊎ ((digits : ℕ) × (power : ℕ) × (10 ^ 37 ≤ digits) × (digits < 10 ^ 38) × (power < 256) × (n ≡ digits * 10 ^ power))

abbrev pub signed : Bool → ℕ → ℤ
signed negative n = if negative then neg_ℤ (pos n) else pos n

-- ---- the parts of a text: digits, perhaps a sign before them and a point among them, and perhaps an exponent after them

abbrev pub has : ℕ → List ℕ → Bool
has c text = nat_lt (position_or_len (λ b. b == c) text) (length text)

-- the exponent comes after the first `e`, or after the first `E` where there is no `e`
abbrev pub mark : List ℕ → ℕ
mark text = if has 101 text then 101 else 69

abbrev pub mantissa : List ℕ → List ℕ
mantissa text = before_first (λ b. b == mark text) text

-- the exponent, of 32 bits, is 0 where none is written
abbrev pub IsExponent : List ℕ → ℤ → Type 0
IsExponent text z =
    let written = after_first (λ b. b == mark text) text in
    MatchBool (has (mark text) text) (IsNumeral 10 (without_leading_sign written) × FitsSigned w32 z × (z ≡ signed_digits_value 10 written)) (z ≡ pos 0)

-- the text before the point, with the sign, and the text after it
abbrev pub whole : List ℕ → List ℕ
whole text = before_first (λ b. b == 46) (mantissa text)

abbrev pub fraction : List ℕ → List ℕ
fraction text = after_first (λ b. b == 46) (mantissa text)

-- The number z of a sign, the digits before and after a point, and an exponent: the digits as an integer, times ten to the
-- exponent, divided by ten for each digit after the point. It is one that is kept.
pub record IsDecimal (negative : Bool) (before behind : List ℕ) (exponent z : ℤ) : Type 0 where
  pub size : ℕ
  pub is_numeral : IsNumeral 10 (before ++ behind)
  pub is_size : size * 10 ^ (length behind + down exponent) ≡ digits_value 10 (before ++ behind) * 10 ^ (167 + up exponent)
  pub is_kept : IsKept size
  pub is_signed : z ≡ signed negative size

-- the text says the number z
pub record IsNumber (text : List ℕ) (z : ℤ) : Type 0 where
  pub exponent : ℤ
  pub is_exponent : IsExponent text exponent
  pub is_decimal : IsDecimal (starts_with_minus (whole text)) (without_leading_sign (whole text)) (fraction text) exponent z
