-- The symbols that a map's one key may be, and what the value under one becomes: a list a set, a
-- text a number, a boolean a NULL. The sets' symbols are those of the library's writer; a number
-- and a NULL have no event of their own.
use Rattle.std.specs.Prelude.{ℕ, List, [], ◌∷◌, ◌++◌, codes, Option, Some, None, Result, Ok, Err}
use Rattle.std.specs.Prelude.{if◌then◌else◌, bytes_eq}
use Rattle.dynamo_value.specs.Av as av
use Rattle.dynamo_value.specs.Av.{Av}
use Rattle.dynamo_value.specs.Fault.{Fault}
use Rattle.dynamo_ser.specs.Symbols as symbols
use Rattle.dynamo_ser.specs.Symbols.{SetKind}
use Rattle.dynamo_write.specs.Set.{set_kind, as_set}

pub data Symbol : Type 0 where
  a_set : SetKind → Symbol
  a_number a_null : Symbol

-- a word between two characters U+037E
abbrev pub word : Symbol → List ℕ
word (a_set kind) = symbols.symbol kind
word a_number = 205 ∷ 190 ∷ codes "NUMBER" ++ 205 ∷ 190 ∷ []
word a_null = 205 ∷ 190 ∷ codes "NULL" ++ 205 ∷ 190 ∷ []

abbrev pub set_or : Option SetKind → Option Symbol → Option Symbol
set_or (Some kind) other = Some (a_set kind)
set_or None other = other

abbrev pub other_named : List ℕ → Option Symbol
other_named name =
    if bytes_eq name (word a_number) then Some a_number else
    if bytes_eq name (word a_null) then Some a_null else None

-- the symbol of this name, if it is one
abbrev pub named : List ℕ → Option Symbol
named name = set_or (set_kind name) (other_named name)

abbrev pub taken : Result Av Fault → Option Av
taken (Ok a) = Some a
taken (Err f) = None

-- what a value becomes, where it may be under the symbol
abbrev pub converted : Symbol → Av → Option Av
converted (a_set kind) a = taken (as_set kind a)
converted a_number (av.S text) = Some (av.N text)
converted a_number _ = None
converted a_null (av.Boolean b) = Some (av.Null b)
converted a_null _ = None
