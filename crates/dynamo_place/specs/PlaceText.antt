-- The printed text of a place, as `orders[3].price`, and of an error with its place.
use Rattle.std.specs.Prelude.{ℕ, Bool, not, ◌&&◌, ◌||◌, ◌==◌, List, [], ◌∷◌, ◌++◌, length, Option}
use Rattle.std.specs.Prelude.{Some, if◌then◌else◌, chars, codes, string_bytes}
use Rattle.std.specs.Char.Unicode.Alphabetic.{is_alphabetic}
use Rattle.std.specs.Char.Unicode.Numeric.{is_numeric}
use Rattle.std.specs.Fmt.{decimal, debug_str, ◌++?◌}
use Rattle.std.specs.List.{list_all}
use Rattle.dynamo_place.specs.Found.{steps_of}
use Rattle.dynamo_place.specs.declared.located_error.LocatedError.{LocatedError}
use Rattle.dynamo_place.specs.declared.place.Step.{Step}

-- a letter, a digit, `_` or `-`
abbrev pub is_plain_char : ℕ → Bool
is_plain_char c = is_alphabetic c || is_numeric c || c == 95 || c == 45

-- a plain name isn't empty, and has such characters alone
abbrev pub is_plain_name : List ℕ → Bool
is_plain_name name = not (length name == 0) && list_all is_plain_char (chars name)

-- a plain name as it is, and any other as its `{:?}`, of which nothing is said past ASCII
abbrev pub name_text : List ℕ → Option (List ℕ)
name_text name = if is_plain_name name then Some name else debug_str name

-- the name of an attribute, and the index of an element in brackets
abbrev pub step_text : Step → Option (List ℕ)
step_text (Step.Attribute name) = name_text (string_bytes name)
step_text (Step.Element index) = Some (codes "[" ++ (decimal index ++ codes "]"))

-- a step that isn't the first: a dot comes before the name of an attribute
abbrev pub further_text : Step → Option (List ℕ)
further_text (Step.Attribute name) = Some (codes ".") ++? step_text (Step.Attribute name)
further_text (Step.Element index) = step_text (Step.Element index)

-- the further steps, one after another
abbrev pub further_texts : List Step → Option (List ℕ)
further_texts [] = Some []
further_texts (step ∷ steps) = further_text step ++? further_texts steps

-- the first step, and the further ones
abbrev pub place_text : List Step → Option (List ℕ)
place_text [] = Some []
place_text (step ∷ steps) = step_text step ++? further_texts steps

-- a text after its place and `: `, or the text alone of the whole value
abbrev pub text_at : List Step → Option (List ℕ) → Option (List ℕ)
text_at [] text = text
text_at (step ∷ steps) text = place_text (step ∷ steps) ++? Some (codes ": ") ++? text

-- the text of an error at its place, by that of the error alone
abbrev pub located_text : {E : Type 0} → (E → Option (List ℕ)) → LocatedError E → Option (List ℕ)
located_text text located = text_at (steps_of located.place) (text located.error)
