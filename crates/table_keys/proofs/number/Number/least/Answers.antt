use Rattle.std.proofs.Common.{refl, inr, ◌*◌, ◌^◌, ◌-◌, arith}
use Rattle.table_keys.proofs.NextNumbers.{kept_size, none_below}
use Rattle.table_keys.proofs.NextSizes.{greatest}
use Rattle.table_keys.proofs.number.Number.least.Goals as goal

pub returns : goal.returns
returns c =
    none_below ((10 ^ 38 - 1) * 10 ^ 255) (kept_size (10 ^ 38 - 1) 255 (inr (omega arith, omega arith)) (omega arith))
    (greatest (10 ^ 38 - 1) 255 refl (omega arith))
