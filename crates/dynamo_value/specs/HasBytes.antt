-- The byte strings of an attribute value hold bytes, numbers below 256, at every depth.
use Rattle.std.specs.Prelude.{⊤}
use Rattle.std.specs.List.{AllByRecursion}
use Rattle.base64.specs.GeneralPurpose.{IsBytes}
use Rattle.dynamo_value.specs.Av.{Av, B, M, L, Bs, Members, no_members, member, Elements, no_elements, element}

abbrev mutual
  pub HasBytes : Av → Type 0
  HasBytes (B bytes) = IsBytes bytes
  HasBytes (Bs blobs) = AllByRecursion IsBytes blobs
  HasBytes (L elements) = ElementsHaveBytes elements
  HasBytes (M members) = MembersHaveBytes members
  HasBytes _ = ⊤

  pub ElementsHaveBytes : Elements → Type 0
  ElementsHaveBytes no_elements = ⊤
  ElementsHaveBytes (element a as') = HasBytes a × ElementsHaveBytes as'

  pub MembersHaveBytes : Members → Type 0
  MembersHaveBytes no_members = ⊤
  MembersHaveBytes (member name a ms) = HasBytes a × MembersHaveBytes ms
