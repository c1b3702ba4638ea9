-- What a file in memory holds.
use Rattle.std.specs.Prelude.{ℕ, List}
use Rattle.table_pages.specs.declared.memory.Memory.{Memory}

abbrev pub bytes_of : Memory → List ℕ
bytes_of m = m.bytes.items
