-- The prefixes of DynamoDB JSON: the one key of the object that stands for an attribute value names its kind.
use Rattle.std.specs.Prelude.{ℕ, List, [], ◌∷◌, Option, Some, None, if◌then◌else◌, bytes_eq, codes}

pub data Prefix : Type 0 where
  N S Bool B Null M L Ss Ns Bs : Prefix

abbrev pub prefix_text : Prefix → List ℕ
prefix_text N = codes "N"
prefix_text S = codes "S"
prefix_text Bool = codes "BOOL"
prefix_text B = codes "B"
prefix_text Null = codes "NULL"
prefix_text M = codes "M"
prefix_text L = codes "L"
prefix_text Ss = codes "SS"
prefix_text Ns = codes "NS"
prefix_text Bs = codes "BS"

abbrev pub prefixes : List Prefix
prefixes = N ∷ S ∷ Bool ∷ B ∷ Null ∷ M ∷ L ∷ Ss ∷ Ns ∷ Bs ∷ []

abbrev pub prefix_among : List Prefix → List ℕ → Option Prefix
prefix_among [] text = None
prefix_among (p ∷ ps) text = if bytes_eq text (prefix_text p) then Some p else prefix_among ps text

-- the prefix of this text
abbrev pub prefix_of : List ℕ → Option Prefix
prefix_of text = prefix_among prefixes text
