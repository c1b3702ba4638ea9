-- How a number is held: a coefficient of 38 digits and a power of ten, or zero in one way alone.
use Rattle.std.specs.Prelude.{◌≡◌, ◌⊎◌, ◌*◌, ◌^◌, ◌<◌, ◌≤◌, ℤ, false}
use Rattle.table_keys.specs.Numbers.{signed}
use Rattle.table_keys.specs.declared.number.Number.TheInside.{Inside}

abbrev pub value_of : Inside → ℤ
value_of n = signed n.negative (n.coefficient * 10 ^ n.power)

abbrev pub IsNormal : Inside → Type 0
IsNormal n = ((n.coefficient ≡ 0) × (n.power ≡ 0) × (n.negative ≡ false)) ⊎ ((10 ^ 37 ≤ n.coefficient) × (n.coefficient < 10 ^ 38))
