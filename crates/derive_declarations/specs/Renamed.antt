-- The names that fields and variants are stored under, by serde's `rename_all`. A name is its
-- bytes, in UTF-8. Only ASCII letters and `_` change: the bytes of other characters are kept.
use Rattle.std.specs.Prelude.{ℕ, List, [], ◌∷◌, Bool, true, false, Option, Some, None, map, codes}
use Rattle.std.specs.Prelude.{string_bytes, ◌==◌, if◌then◌else◌}
use Rattle.std.specs.Char.{is_ascii_uppercase, to_ascii_lowercase as lower}
use Rattle.std.specs.Char.{to_ascii_uppercase as upper}
use Rattle.std.specs.List.{flat_map}
use Rattle.std.specs.declared.alloc.Global.{Global}
use Rattle.std.specs.declared.string.String.{String}
use Rattle.derive_declarations.specs.declared.rename.RenameRule.{RenameRule}

-- what `rename_all` calls the rule
abbrev pub rule_name : RenameRule → List ℕ
rule_name RenameRule.Lower = codes "lowercase"
rule_name RenameRule.Upper = codes "UPPERCASE"
rule_name RenameRule.Pascal = codes "PascalCase"
rule_name RenameRule.Camel = codes "camelCase"
rule_name RenameRule.Snake = codes "snake_case"
rule_name RenameRule.ScreamingSnake = codes "SCREAMING_SNAKE_CASE"
rule_name RenameRule.Kebab = codes "kebab-case"
rule_name RenameRule.ScreamingKebab = codes "SCREAMING-KEBAB-CASE"

abbrev pub lowercase : List ℕ → List ℕ
lowercase name = map lower name

abbrev pub uppercase : List ℕ → List ℕ
uppercase name = map upper name

-- a `_` (95) becomes a `-` (45)
abbrev pub dashed : ℕ → ℕ
dashed b = if b == 95 then 45 else b

abbrev pub kebab : List ℕ → List ℕ
kebab name = map dashed name

-- the first letter is small
abbrev pub camel : List ℕ → List ℕ
camel [] = []
camel (b ∷ bs) = lower b ∷ bs

-- a capital within a name begins a word: it becomes `_` and the small letter
abbrev pub worded : ℕ → List ℕ
worded b = if is_ascii_uppercase b then 95 ∷ lower b ∷ [] else b ∷ []

-- the first letter is small, and begins no word
abbrev pub snake : List ℕ → List ℕ
snake [] = []
snake (b ∷ bs) = lower b ∷ flat_map worded bs

-- each `_` goes, and a word begins after it
abbrev pub pascal_from : Bool → List ℕ → List ℕ
pascal_from begins [] = []
pascal_from begins (b ∷ bs) =
    if b == 95 then pascal_from true bs else (if begins then upper b else b) ∷ pascal_from false bs

-- the first letter and each after a `_` is a capital, and the `_` go
abbrev pub pascal : List ℕ → List ℕ
pascal name = pascal_from true name

-- the name of a field, which is in `snake_case`
abbrev pub renamed_field : RenameRule → List ℕ → List ℕ
renamed_field RenameRule.Lower name = name
renamed_field RenameRule.Upper name = uppercase name
renamed_field RenameRule.Pascal name = pascal name
renamed_field RenameRule.Camel name = camel (pascal name)
renamed_field RenameRule.Snake name = name
renamed_field RenameRule.ScreamingSnake name = uppercase name
renamed_field RenameRule.Kebab name = kebab name
renamed_field RenameRule.ScreamingKebab name = uppercase (kebab name)

-- the name of a variant, which is in `PascalCase`
abbrev pub renamed_variant : RenameRule → List ℕ → List ℕ
renamed_variant RenameRule.Lower name = lowercase name
renamed_variant RenameRule.Upper name = uppercase name
renamed_variant RenameRule.Pascal name = name
renamed_variant RenameRule.Camel name = camel name
renamed_variant RenameRule.Snake name = snake name
renamed_variant RenameRule.ScreamingSnake name = uppercase (snake name)
renamed_variant RenameRule.Kebab name = kebab (snake name)
renamed_variant RenameRule.ScreamingKebab name = uppercase (kebab (snake name))

-- the name that a field or a variant is stored under: its own `rename`, else by the rule, else its
-- name in Rust
abbrev pub stored_name :
    (RenameRule → List ℕ → List ℕ) → Option (String Global) → Option RenameRule → List ℕ → List ℕ
stored_name renamed (Some rename) rule name = string_bytes rename
stored_name renamed None (Some rule) name = renamed rule name
stored_name renamed None None name = name
