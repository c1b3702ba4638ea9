-- The bytes of a number, which come in the order of the numbers.
use Rattle.std.specs.Prelude.{◌≡◌, ℕ, ◌-◌, ◌<◌, ℤ, Bool, true, false, List, ◌∷◌, map}
use Rattle.std.specs.Int.{w128, to_be_bytes}
use Rattle.table_keys.specs.Normal.{value_of, IsNormal}
use Rattle.table_keys.specs.declared.number.Number.TheInside.{Inside}

-- of a number that is not negative: 128, the power of ten, and the sixteen bytes of the coefficient, the greatest first
abbrev pub size_bytes : ℕ → ℕ → List ℕ
size_bytes power coefficient = 128 ∷ power ∷ to_be_bytes w128 coefficient

-- each byte turned over, so that the greatest come first
abbrev pub turned : List ℕ → List ℕ
turned bytes = map (λ b. 255 - b) bytes

abbrev pub signed_bytes : Bool → ℕ → ℕ → List ℕ
signed_bytes false power coefficient = size_bytes power coefficient
signed_bytes true power coefficient = turned (size_bytes power coefficient)

-- the bytes of the number z, by the sign, the coefficient of 38 digits and the power of ten that make it
pub record IsBytesOf (z : ℤ) (bytes : List ℕ) : Type 0 where
  pub held : Inside
  pub is_normal : IsNormal held
  pub is_byte : held.power < 256
  pub is_value : value_of held ≡ z
  pub is_bytes : bytes ≡ signed_bytes held.negative held.power held.coefficient
