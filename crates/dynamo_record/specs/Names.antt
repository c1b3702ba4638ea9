-- The names of fields or variants, in order.
use Rattle.std.specs.Prelude.{ℕ, suc, Bool, true, false, ◌&&◌, ◌||◌, not, List, [], ◌∷◌, ◌++◌}
use Rattle.std.specs.Prelude.{codes, bytes_eq, if◌then◌else◌}
use Rattle.std.proofs.Common.{zero}
use Rattle.dynamo_de.specs.Source.{Text}

abbrev pub Names : Type 0
Names = List Text

abbrev pub first_name : Names → Text
first_name [] = []
first_name (n ∷ ns) = n

abbrev pub other_names : Names → Names
other_names [] = []
other_names (n ∷ ns) = ns

abbrev pub is_named : Names → Text → Bool
is_named [] t = false
is_named (n ∷ ns) t = bytes_eq t n || is_named ns t

-- no two are the same
abbrev pub differ : Names → Bool
differ [] = true
differ (n ∷ ns) = not (is_named ns n) && differ ns

-- the place of a name, where the first has place i; of another text the place after the last
abbrev pub place_of : ℕ → Names → Text → ℕ
place_of i [] t = i
place_of i (n ∷ ns) t = if bytes_eq t n then i else place_of (suc i) ns t

-- the names from this place on
abbrev pub names_from : ℕ → Names → Names
names_from zero ns = ns
names_from (suc i) ns = other_names (names_from i ns)

-- the refusal of a map that has no entry for the field of this name
abbrev pub missing_text : Text → Text
missing_text n = codes "missing field `" ++ (n ++ codes "`")

-- the refusal of a list that ends too soon, by what is expected
abbrev pub too_few_text : Text → Text
too_few_text expecting = codes "invalid length: too few elements, expected " ++ expecting
