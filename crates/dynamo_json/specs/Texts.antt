-- The strings of a JSON value hold bytes, numbers below 256, at every depth. Those of each value of
-- a program do, since a text is UTF-8.
use Rattle.std.specs.Prelude.{⊤}
use Rattle.base64.specs.GeneralPurpose.{IsBytes}
use Rattle.serde_json.specs.Data.{Data, string, array, object, Items, no_items, item, Members}
use Rattle.serde_json.specs.Data.{no_members, member}

abbrev mutual
  pub HasTexts : Data → Type 0
  HasTexts (string text) = IsBytes text
  HasTexts (array items) = ItemsHaveTexts items
  HasTexts (object members) = MembersHaveTexts members
  HasTexts _ = ⊤

  pub ItemsHaveTexts : Items → Type 0
  ItemsHaveTexts no_items = ⊤
  ItemsHaveTexts (item j js) = HasTexts j × ItemsHaveTexts js

  pub MembersHaveTexts : Members → Type 0
  MembersHaveTexts no_members = ⊤
  MembersHaveTexts (member name j ms) = HasTexts j × MembersHaveTexts ms
