-- The JSON object of one member.
use Rattle.std.specs.Prelude.{ℕ, List}
use Rattle.serde_json.specs.Data as json
use Rattle.serde_json.specs.Data.{Data}

abbrev pub one_member : List ℕ → Data → Data
one_member name content = json.object (json.member name content json.no_members)
