-- JSON values that are written and read back.
use Rattle.std.specs.Prelude.{◌≡◌, ℕ, ◌^◌, ◌<◌, pos, negsuc, List, [], ◌∷◌, Ok, T}
use Rattle.std.specs.FinMap.Entries.{is_sorted}
use Rattle.serde_json.specs.Data as json
use Rattle.serde_json.specs.Data.{Data, Num}
use Rattle.dynamo_value.specs.Av.{Av}
use Rattle.dynamo_value.specs.View.{text_cmp}
use Rattle.dynamo_ser.specs.JsonValue.{json_datum}
use Rattle.dynamo_de.specs.Answer.{value}
use Rattle.dynamo_de.specs.ReadJson.{read_value}
use Rattle.dynamo_write.specs.Written.{written}
use Rattle.dynamo_json.specs.Plain.{plain}

-- the members of an object, by their names
abbrev pub entries : json.Members → List (List ℕ × Data)
entries json.no_members = []
entries (json.member name j ms) = (name, j) ∷ entries ms

-- a whole number of 64 bits: one that is negative has no other form
abbrev pub IsWhole : Num → Type 0
IsWhole (json.unsigned n) = n < 2 ^ 64
IsWhole (json.negative (pos n)) = ⊥
IsWhole (json.negative (negsuc n)) = n < 2 ^ 63
IsWhole (json.float x) = ⊥

-- without floats; the members of an object are in ascending order of the bytes of their names, each
-- name once
abbrev mutual
  pub IsJson : Data → Type 0
  IsJson (json.number n) = IsWhole n
  IsJson (json.array js) = AreJson js
  IsJson (json.object ms) = T (is_sorted text_cmp (entries ms)) × MembersAreJson ms
  IsJson _ = Unit {0}

  pub AreJson : json.Items → Type 0
  AreJson json.no_items = Unit {0}
  AreJson (json.item j js) = IsJson j × AreJson js

  pub MembersAreJson : json.Members → Type 0
  MembersAreJson json.no_members = Unit {0}
  MembersAreJson (json.member name j ms) = IsJson j × MembersAreJson ms

-- It is written as an attribute value; that is read as the JSON value alone; its plain JSON is
-- itself.
abbrev pub JsonBack : Data → Type 0
JsonBack j = (a : Av) × (written (json_datum j) ≡ Ok a) × (read_value a ≡ value j)
    × (plain (json_datum j) ≡ Ok j)
