-- Which number comes next to another among those that DynamoDB keeps.
use Rattle.std.specs.Prelude.{◌≡◌, ◌⊎◌, ℕ, ◌^◌, ◌<◌, ◌≤◌, ℤ, Bool, true}
use Rattle.std.specs.Ordering.{int_cmp, is_le}
use Rattle.std.specs.declared.cmp.Ordering.TheVariants.{Less}
use Rattle.table_keys.specs.Numbers.{IsKept, signed}

-- the number is one that DynamoDB keeps: a size that is kept, with a sign
pub record IsKeptNumber (z : ℤ) : Type 0 where
  pub negative : Bool
  pub size : ℕ
  pub is_kept : IsKept size
  pub is_signed : z ≡ signed negative size

-- no kept number is below z, which is kept
abbrev pub IsLeast : ℤ → Type 0
IsLeast z = IsKeptNumber z × ((other : ℤ) → IsKeptNumber other → is_le (int_cmp z other) ≡ true)

-- no kept number is above z
abbrev pub IsGreatest : ℤ → Type 0
IsGreatest z = (other : ℤ) → IsKeptNumber other → is_le (int_cmp other z) ≡ true

-- next is the least kept number above z
pub record IsNext (z next : ℤ) : Type 0 where
  pub is_kept : IsKeptNumber next
  pub is_above : int_cmp z next ≡ Less
  pub is_least : (other : ℤ) → IsKeptNumber other → int_cmp z other ≡ Less → is_le (int_cmp next other) ≡ true

-- ---- sizes, numbers without their sign

-- a size in 38 digits and a power of ten, or zero in one way alone
abbrev pub IsFull : ℕ → ℕ → Type 0
IsFull coefficient power =
    ((coefficient ≡ 0) × (power ≡ 0)) ⊎ ((10 ^ 37 ≤ coefficient) × (coefficient < 10 ^ 38))

-- no kept size is above n
abbrev pub IsGreatestSize : ℕ → Type 0
IsGreatestSize n = (other : ℕ) → IsKept other → other ≤ n

-- no kept size lies between these two, the first of which is less
abbrev pub IsNextSize : ℕ → ℕ → Type 0
IsNextSize n next = (n < next) × ((other : ℕ) → IsKept other → n < other → next ≤ other)
