-- The attribute value as contracts see it: a tree of texts and numbers without memory. The members of a map come in
-- ascending order of the bytes of their keys, each key once, so that two attribute values are the same by value exactly
-- where their trees are equal.
use Rattle.std.specs.Prelude.{ℕ, List, [], ◌∷◌, Bool}

-- A text is the list of its UTF-8 bytes, a byte string the list of its bytes.
mutual
  pub data Av : Type 0 where
    N S B : List ℕ → Av
    Boolean Null : Bool → Av
    M : Members → Av
    L : Elements → Av
    Ss Ns Bs : List (List ℕ) → Av

  pub data Members : Type 0 where
    no_members : Members
    member : List ℕ → Av → Members → Members

  pub data Elements : Type 0 where
    no_elements : Elements
    element : Av → Elements → Elements

abbrev pub elements_of : List Av → Elements
elements_of [] = no_elements
elements_of (a ∷ as') = element a (elements_of as')

abbrev pub members_of : List (List ℕ × Av) → Members
members_of [] = no_members
members_of (e ∷ es) = member e.0 e.1 (members_of es)
