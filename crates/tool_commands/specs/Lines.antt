-- The lines that the program prints. Each ends with a line feed.
use Rattle.std.specs.Prelude.{ℕ, List, [], ◌∷◌, ◌++◌, codes, Option, Some, None}
use Rattle.std.specs.Fmt.{decimal}
use Rattle.dynamo_value.specs.Av as av
use Rattle.dynamo_value.specs.Av.{Av}

-- the line of a field: its name, its kind and its text
abbrev pub field_line : List ℕ → List ℕ → List ℕ → List ℕ
field_line name kind text = name ++ (32 ∷ (kind ++ (32 ∷ (text ++ 10 ∷ []))))

abbrev pub line_of : List ℕ → Av → List ℕ
line_of name (av.N text) = field_line name (codes "N") text
line_of name (av.S text) = field_line name (codes "S") text
line_of name _ = []

abbrev pub line_at : List ℕ → Option Av → List ℕ
line_at name None = []
line_at name (Some a) = line_of name a

-- the three fields of a user, by their names
abbrev pub user_lines : List ℕ → List ℕ → ℕ → List ℕ
user_lines id name age = field_line (codes "age") (codes "N") (decimal age)
    ++ (field_line (codes "id") (codes "S") id ++ field_line (codes "name") (codes "S") name)

abbrev pub usage_line : List ℕ
usage_line = codes "usage: dynamo_tool user ID NAME AGE | check | dynamo | plain" ++ 10 ∷ []

-- the line of a failure, by the text that tells its reason
abbrev pub error_line : List ℕ → List ℕ
error_line text = codes "error: " ++ (text ++ 10 ∷ [])

abbrev pub no_memory_line : List ℕ
no_memory_line = error_line (codes "out of memory")
