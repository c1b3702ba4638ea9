-- The entries of a hashed map, seen by the bytes of their keys: owned ones, and those that are lent.
use Rattle.std.specs.Prelude.{ℕ, List, map, String, string_bytes}
use Rattle.std.specs.Borrow.{Bor}
use Rattle.std.specs.declared.alloc.Global.{Global}
use Rattle.dynamo_value.specs.Av.{Av}
use Rattle.dynamo_value.specs.View.{view}
use Rattle.dynamo_value.specs.declared.attribute_value.AttributeValue.{AttributeValue}

abbrev pub seen_entry : String Global × AttributeValue → List ℕ × Av
seen_entry e = (string_bytes e.0, view e.1)

abbrev pub seen_entries : List (String Global × AttributeValue) → List (List ℕ × Av)
seen_entries es = map seen_entry es

-- an entry of a map that is lent
abbrev pub Lent : Type 0
Lent = Bor (String Global) × Bor AttributeValue

abbrev pub entry_of : Lent → String Global × AttributeValue
entry_of e = (e.0.now, e.1.now)
