-- The kinds of sets, and the symbols that ask for them: a newtype struct of this name is written as a set.
use Rattle.std.specs.Prelude.{ℕ, List, [], ◌∷◌, ◌++◌, codes}

pub data SetKind : Type 0 where
  strings numbers blobs : SetKind

-- a word between two characters U+037E
abbrev pub symbol : SetKind → List ℕ
symbol strings = 205 ∷ 190 ∷ codes "STRINGSET" ++ 205 ∷ 190 ∷ []
symbol numbers = 205 ∷ 190 ∷ codes "NUMBERSET" ++ 205 ∷ 190 ∷ []
symbol blobs = 205 ∷ 190 ∷ codes "BYTESSET" ++ 205 ∷ 190 ∷ []
