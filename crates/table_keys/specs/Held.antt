-- What the values of a key can be.
use Rattle.std.specs.Prelude.{ℕ, ◌<◌, ⊤}
use Rattle.std.specs.List.{All}
use Rattle.std.specs.Option.{IfSome}
use Rattle.table_keys.specs.Neighbours.{IsKeptNumber}
use Rattle.table_keys.specs.declared.key.Key.{Key}
use Rattle.table_keys.specs.declared.key.KeyValue.{KeyValue}

abbrev pub IsByte : ℕ → Type 0
IsByte b = b < 256

-- The value is a text, a number that DynamoDB keeps, or a string of bytes.
abbrev pub IsHeld : KeyValue → Type 0
IsHeld (KeyValue.S text) = ⊤
IsHeld (KeyValue.N number) = IsKeptNumber number
IsHeld (KeyValue.B bytes) = All IsByte bytes.items

-- the values of the key are such
abbrev pub IsHeldKey : Key → Type 0
IsHeldKey key = IsHeld key.partition × IfSome key.sort IsHeld
