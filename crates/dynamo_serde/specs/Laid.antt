-- An attribute value as the row of tokens that a reader walks along, and what each step of a reader
-- takes from it.
use Rattle.std.specs.Prelude.{◌≡◌, ◌⊎◌, ℕ, ℤ, List, [], ◌∷◌, ◌++◌, Bool, true, false, map, Some}
use Rattle.std.specs.Prelude.{codes, encode_utf8}
use Rattle.std.specs.Str.Parse.{IsNumeral, digits_value, signed_digits_value, without_leading_plus}
use Rattle.std.specs.Str.Parse.{without_leading_sign}
use Rattle.std.specs.Float.{binary32, binary64}
use Rattle.std.specs.Float.Parse.{parse_float}
use Rattle.serde.specs.Event.{Event, boolean as boolean_event, signed, unsigned, single, double}
use Rattle.serde.specs.Event.{character, text as text_event, octets, nothing, unit_variant}
use Rattle.serde.specs.Event.{seq_begins, seq_ends, map_begins, map_ends, field_key, variant_key}
use Rattle.serde.specs.Event.{key_begins, key_ends, flattens}
use Rattle.serde.specs.Names.{Finds}
use Rattle.serde.specs.declared.name.Name.{Name}
use Rattle.dynamo_value.specs.Av as av
use Rattle.dynamo_value.specs.Av.{Av, Members, Elements}
use Rattle.dynamo_ser.specs.Key.{bool_text}
use Rattle.dynamo_ser.specs.Symbols.{SetKind, strings, numbers, blobs}

pub data Token : Type 0 where
  null boolean : Bool → Token
  number text bytes key : List ℕ → Token
  begin_list end_seq begin_map end_map : Token
  begin_set : SetKind → Token

-- The row of an attribute value: a scalar is one token, and a list, a set or a map is between
-- its two ends. Each member of a map is its key and then its value, in the order of the members,
-- which in a view is the ascending order of the bytes of their keys.
abbrev mutual
  pub laid : Av → List Token
  laid (av.N s) = number s ∷ []
  laid (av.S s) = text s ∷ []
  laid (av.Boolean b) = boolean b ∷ []
  laid (av.B blob) = bytes blob ∷ []
  laid (av.Null b) = null b ∷ []
  laid (av.M ms) = begin_map ∷ (members_laid ms ++ end_map ∷ [])
  laid (av.L as') = begin_list ∷ (elements_laid as' ++ end_seq ∷ [])
  laid (av.Ss texts) = begin_set strings ∷ (map text texts ++ end_seq ∷ [])
  laid (av.Ns texts) = begin_set numbers ∷ (map number texts ++ end_seq ∷ [])
  laid (av.Bs xs) = begin_set blobs ∷ (map bytes xs ++ end_seq ∷ [])

  pub members_laid : Members → List Token
  members_laid av.no_members = []
  members_laid (av.member k a ms) = key k ∷ (laid a ++ members_laid ms)

  pub elements_laid : Elements → List Token
  elements_laid av.no_elements = []
  elements_laid (av.element a as') = laid a ++ elements_laid as'

abbrev pub IsLaid : Av → List Token → Type 0
IsLaid a ts = ts ≡ laid a

-- Where a reader is: the tokens to come, and whether the kind of the value that comes was told
-- by the last step.
pub record Place : Type 0 where
  pub ahead : List Token
  pub told : Bool

-- t is taken
abbrev pub Takes : Place → Token → Place → Type 0
Takes old t new = (old.ahead ≡ t ∷ new.ahead) × (new.told ≡ false)

-- only looked at; no kind was told
abbrev pub Stays : Place → Place → Type 0
Stays old new = (new.ahead ≡ old.ahead) × (new.told ≡ true → old.told ≡ true)

-- a string, or a map's key
abbrev pub TakesText : Place → List ℕ → Place → Type 0
TakesText old s new = Takes old (text s) new ⊎ Takes old (key s) new

-- a number, or a map's key
abbrev pub TakesNumber : Place → (List ℕ → Type 0) → Place → Type 0
TakesNumber old P new = (s : List ℕ) × (Takes old (number s) new ⊎ Takes old (key s) new) × P s

abbrev pub IsSigned : ℤ → List ℕ → Type 0
IsSigned z s = IsNumeral 10 (without_leading_sign s) × (z ≡ signed_digits_value 10 s)

abbrev pub IsUnsigned : ℕ → List ℕ → Type 0
IsUnsigned n s = IsNumeral 10 (without_leading_plus s)
    × (n ≡ digits_value 10 (without_leading_plus s))

-- What a step that gave this took. A number whose kind was told is also read as its text, a NULL as
-- a boolean; a list ends where its elements do, or a tuple passes over those that are left.
abbrev pub Reads : Place → Event → Place → Type 0
Reads old (boolean_event b) new = Takes old (boolean b) new ⊎ Takes old (key (bool_text b)) new
    ⊎ ((old.told ≡ true) × Takes old (null b) new)
Reads old (signed z) new = TakesNumber old (IsSigned z) new
Reads old (unsigned n) new = TakesNumber old (IsUnsigned n) new
Reads old (single x) new = TakesNumber old (λ s. parse_float binary32 s ≡ Some x) new
Reads old (double x) new = TakesNumber old (λ s. parse_float binary64 s ≡ Some x) new
Reads old (character c) new = TakesText old (encode_utf8 c) new
Reads old (text_event s) new = TakesText old s new ⊎ ((old.told ≡ true) × Takes old (number s) new)
Reads old (octets bs) new = Takes old (bytes bs) new
Reads old nothing new = Takes old (null true) new
Reads old (unit_variant name case) new = ⊥
Reads old (seq_begins n) new = Takes old begin_list new
    ⊎ ((kind : SetKind) × Takes old (begin_set kind) new)
Reads old seq_ends new = (passed : List Token) × (old.ahead ≡ passed ++ end_seq ∷ new.ahead)
Reads old (map_begins n) new = Takes old begin_map new
Reads old map_ends new = Takes old end_map new
Reads old (field_key name case) new = ⊥
Reads old (variant_key name case) new = ⊥
Reads old key_begins new = (s : List ℕ) × (rest : List Token) × (old.ahead ≡ key s ∷ rest)
    × Stays old new
Reads old key_ends new = ⊥
Reads old flattens new = ⊥

-- the name of the kind of what begins with this token, a word between two characters U+037E; an end
-- and a key have none
abbrev pub kind_word : List ℕ → List ℕ
kind_word s = 205 ∷ 190 ∷ s ++ 205 ∷ 190 ∷ []

abbrev pub kind_name : Token → List ℕ
kind_name (number s) = kind_word (codes "N")
kind_name (text s) = kind_word (codes "S")
kind_name (boolean b) = kind_word (codes "BOOL")
kind_name (bytes s) = kind_word (codes "B")
kind_name (null b) = kind_word (codes "NULL")
kind_name begin_map = kind_word (codes "M")
kind_name begin_list = kind_word (codes "L")
kind_name (begin_set strings) = kind_word (codes "SS")
kind_name (begin_set numbers) = kind_word (codes "NS")
kind_name (begin_set blobs) = kind_word (codes "BS")
kind_name end_seq = []
kind_name end_map = []
kind_name (key s) = []

-- What a step that picked a name took: a key, a text, or nothing where the kinds' names were asked
-- for.
abbrev pub Picks : Place → Bool → List Name → ℕ → Place → Type 0
Picks old true names at new = (s : List ℕ) × Takes old (key s) new × Finds names s at
Picks old false names at new =
    ((s : List ℕ) × TakesText old s new × Finds names s at)
    ⊎ ((t : Token) × (rest : List Token) × (old.ahead ≡ t ∷ rest) × (new.ahead ≡ old.ahead) × Finds names (kind_name t) at)
