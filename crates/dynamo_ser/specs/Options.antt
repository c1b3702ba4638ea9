-- What an option tells, by what its content tells.
use Rattle.std.specs.Prelude.{Option, Some, None}
use Rattle.dynamo_ser.specs.Datum as datum
use Rattle.dynamo_ser.specs.Datum.{Datum}

abbrev pub option_tells : {A : Type 0} → (A → Datum) → Option A → Datum
option_tells tells None = datum.none
option_tells tells (Some content) = datum.some (tells content)

abbrev pub option_wants : {A : Type 0} → (A → Type 0) → Option A → Type 0
option_wants wants None = ⊥
option_wants wants (Some content) = wants content
