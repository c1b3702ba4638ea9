-- The bytes of a key, which come in the order of the keys.
use Rattle.std.specs.Prelude.{◌≡◌, ℕ, List, [], ◌∷◌, Option, Some, None, string_bytes}
use Rattle.table_keys.specs.NumberBytes.{IsBytesOf}
use Rattle.table_keys.specs.declared.key.Key.{Key}
use Rattle.table_keys.specs.declared.key.KeyValue.{KeyValue}
use Rattle.table_keys.specs.declared.bytes.KeyBytes.{KeyBytes}

-- the bytes of a value: one byte of its kind, and then those of the text, of the number or of the byte string
abbrev pub IsValueBytes : KeyValue → List ℕ → Type 0
IsValueBytes (KeyValue.S text) bytes = bytes ≡ 0 ∷ string_bytes text
IsValueBytes (KeyValue.N number) bytes = (rest : List ℕ) × IsBytesOf number rest × (bytes ≡ 1 ∷ rest)
IsValueBytes (KeyValue.B content) bytes = bytes ≡ 2 ∷ content.items

-- the bytes of a sort key: none where there is no sort key
abbrev pub IsSortBytes : Option KeyValue → List ℕ → Type 0
IsSortBytes None bytes = bytes ≡ []
IsSortBytes (Some value) bytes = IsValueBytes value bytes

abbrev pub IsKeyBytes : Key → KeyBytes → Type 0
IsKeyBytes key bytes = IsValueBytes key.partition bytes.partition.items × IsSortBytes key.sort bytes.sort.items
