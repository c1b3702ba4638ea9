-- The tokens of a JSON text, and the entries of a map that are lent.
use Rattle.std.specs.Prelude.{List, [], ◌∷◌, map}
use Rattle.json.specs.Token.{Token, begin_object, end_object, key}
use Rattle.json.specs.Tree.{json_tokens}
use Rattle.serde_json.specs.Data.{Data}
use Rattle.serde_json.specs.Written.{outline}
use Rattle.dynamo_value.specs.Av.{Members, members_of}
use Rattle.dynamo_value.specs.Entries.{Lent, entry_of, seen_entries}
use Rattle.dynamo_value.specs.Prefix.{Prefix, prefix_text}

-- the tokens of a JSON value without floats, in the order of its text
abbrev pub tokens_of : Data → List Token
tokens_of json = json_tokens (outline json)

-- those before and after the content of an attribute value
abbrev pub begun : Prefix → List Token
begun p = begin_object ∷ key (prefix_text p) ∷ []

abbrev pub ended : List Token
ended = end_object ∷ []

-- the members that entries of a map that are lent represent, in their order
abbrev pub lent_view : List Lent → Members
lent_view es = members_of (seen_entries (map entry_of es))
