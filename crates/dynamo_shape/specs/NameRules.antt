-- The rules by which a struct takes the names of a map's entries.
use Rattle.std.specs.Prelude.{ℕ, Bool, List, [], ◌∷◌, bytes_eq, if◌then◌else◌}

-- The other names of fields, each with the own name of its field; and whether an entry that no field reads is refused.
pub record NameRules : Type 0 where
  pub aliases : List (List ℕ × List ℕ)
  pub denies : Bool

-- the own name of the field that has this other name; any other name is itself
abbrev pub own_name : List (List ℕ × List ℕ) → List ℕ → List ℕ
own_name [] t = t
own_name (a ∷ others) t = if bytes_eq t a.0 then a.1 else own_name others t
