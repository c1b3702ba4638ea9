-- The members of each map come in ascending order of the bytes of their keys, each key once, at
-- every depth. So it is with each attribute value that a value of a program stands for.
use Rattle.std.specs.Prelude.{ℕ, List, [], ◌∷◌, T}
use Rattle.std.specs.FinMap.Entries.{is_sorted}
use Rattle.dynamo_value.specs.Av as av
use Rattle.dynamo_value.specs.Av.{Av}
use Rattle.dynamo_value.specs.View.{text_cmp}

-- the members of a map, by their keys
abbrev pub entries : av.Members → List (List ℕ × Av)
entries av.no_members = []
entries (av.member key a ms) = (key, a) ∷ entries ms

abbrev mutual
  pub InOrder : Av → Type 0
  InOrder (av.M members) = T (is_sorted text_cmp (entries members)) × EachInOrder members
  InOrder (av.L elements) = ElementsInOrder elements
  InOrder _ = Unit {0}

  pub ElementsInOrder : av.Elements → Type 0
  ElementsInOrder av.no_elements = Unit {0}
  ElementsInOrder (av.element a as') = InOrder a × ElementsInOrder as'

  pub EachInOrder : av.Members → Type 0
  EachInOrder av.no_members = Unit {0}
  EachInOrder (av.member key a ms) = InOrder a × EachInOrder ms

-- the same of the members of an item
abbrev pub ItemInOrder : av.Members → Type 0
ItemInOrder members = InOrder (av.M members)
