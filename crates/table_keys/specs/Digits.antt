-- How the digits of a text become the size of a number.
use Rattle.std.specs.Prelude.{◌≡◌, ◌≢◌, ℕ, ◌+◌, ◌*◌, ◌^◌, ◌%◌, ◌<◌, ◌≤◌, ℤ}
use borrow.Author.Differences.{up, down}

-- n has more than 38 digits that count: it begins with 38 digits or more, the last of which is not zero
pub record IsLong (n : ℕ) : Type 0 where
  pub first : ℕ
  pub others : ℕ
  pub rest : ℕ
  pub is_split : n ≡ first * 10 ^ others + rest
  pub is_rest : rest < 10 ^ others
  pub is_large : 10 ^ 38 ≤ first
  pub counts : first % 10 ≢ 0

-- n is the digits times ten to the power
abbrev pub IsScaled : ℕ → ℤ → ℕ → Type 0
IsScaled digits power n = n * 10 ^ down power ≡ digits * 10 ^ up power
