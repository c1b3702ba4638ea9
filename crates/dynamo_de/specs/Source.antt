-- Where a value is read from.
use Rattle.std.specs.Prelude.{◌≡◌, ℕ, List, [], ◌∷◌}
use Rattle.dynamo_value.specs.Av as av
use Rattle.dynamo_value.specs.Av.{Av, Members, Elements}

-- A text is the list of its UTF-8 bytes.
abbrev pub Text : Type 0
Text = List ℕ

-- An attribute value; or, inside of one, the key of a map, an element of a set of numbers, of strings or of byte strings.
-- A plain text is also the name of a variant.
pub data Source : Type 0 where
  attribute : Av → Source
  key_text number_text plain_text byte_string : List ℕ → Source

-- the source is this text: the key of a map, or a plain text
abbrev pub IsText : Source → Text → Type 0
IsText (key_text t) text = t ≡ text
IsText (plain_text t) text = t ≡ text
IsText _ text = ⊥

-- an entry of a map: its key's text and its value
abbrev pub Entry : Type 0
Entry = List ℕ × Av

-- the entries of a map, in ascending order of the bytes of their keys
abbrev pub entries_of : Members → List Entry
entries_of av.no_members = []
entries_of (av.member k a ms) = (k, a) ∷ entries_of ms

-- the elements of a list
abbrev pub values_of : Elements → List Source
values_of av.no_elements = []
values_of (av.element a as') = attribute a ∷ values_of as'

-- the elements of a set
abbrev pub each : (List ℕ → Source) → List (List ℕ) → List Source
each source [] = []
each source (t ∷ ts) = source t ∷ each source ts
