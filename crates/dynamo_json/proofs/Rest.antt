-- The tokens that are left to write of a list, a set or the members of a map, with the closing bracket.
use Rattle.std.proofs.Common.{◌≡◌, ℕ, List, ◌++◌, map, ap, ◌∙◌, append_assoc}
use Rattle.dynamo_json.proofs.Common.{Token, items_of, items_outline, members_outline}
use Rattle.dynamo_json.proofs.Common.{elements_view, AttributeValue, elements_json, members_json}
use Rattle.dynamo_json.proofs.Common.{Lent, lent_view}
use Rattle.serde_json.specs.Data as json
use Rattle.json.specs.Tree.{items_tokens, members_tokens}

abbrev pub elements_left : List AttributeValue → List Token
elements_left values = items_tokens (items_outline (elements_json (elements_view values)))

abbrev pub texts_left : List (List ℕ) → List Token
texts_left texts = items_tokens (items_outline (items_of (map json.string texts)))

abbrev pub members_left : List Lent → List Token
members_left es = members_tokens (members_outline (members_json (lent_view es)))

-- some of what was left is written
pub one_more : (now new more rest whole : List Token) → new ≡ now ++ more → now ++ (more ++ rest) ≡ whole → new ++ rest ≡ whole
one_more now new more rest whole wrote so_far = ap (λ (ts : List Token). ts ++ rest) wrote ∙ append_assoc now more rest ∙ so_far
