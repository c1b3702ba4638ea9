-- The text that is written of an item under a name spells it.
use Rattle.std.proofs.Common.{◌≡◌, ℕ, List, [], ◌∷◌, map, sym, ap, ◌∙◌}
use Rattle.dynamo_json.proofs.Common.{tokens, items_of, outline, items_outline, members_outline}
use Rattle.dynamo_json.proofs.Common.{compact_text, Av, Members, base64_text, IsWritable}
use Rattle.dynamo_json.proofs.Common.{SpellsItem, json_of, elements_json, members_json, item_json}
use Rattle.dynamo_json.proofs.Common.{tokens_of}
use Rattle.serde_json.specs.Data as json
use Rattle.dynamo_value.specs.Av as av
use Rattle.json.specs.Tree.{HasNumbers, ItemsHaveNumbers, MembersHaveNumbers}
use Rattle.json.proofs.Printed.Tokens.{tokens-print}
use Rattle.json.proofs.Printed.Trees.{ArePrintable-json_tokens}
use Rattle.serde_json.proofs.Texts.{print-outline}
use Rattle.dynamo_json.specs.OneMember.{one_member}

-- it has no JSON number, so each is written as it is read

texts_numbers : (texts : List (List ℕ)) → ItemsHaveNumbers (items_outline (items_of (map json.string texts)))
texts_numbers [] = tt
texts_numbers (text ∷ texts) = (tt, texts_numbers texts)

mutual
  value_numbers : (a : Av) → HasNumbers (outline (json_of a))
  value_numbers (av.N text) = (tt, tt)
  value_numbers (av.S text) = (tt, tt)
  value_numbers (av.Boolean b) = (tt, tt)
  value_numbers (av.B bytes) = (tt, tt)
  value_numbers (av.Null b) = (tt, tt)
  value_numbers (av.M ms) = (members_numbers ms, tt)
  value_numbers (av.L as') = (elements_numbers as', tt)
  value_numbers (av.Ss texts) = (texts_numbers texts, tt)
  value_numbers (av.Ns texts) = (texts_numbers texts, tt)
  value_numbers (av.Bs blobs) = (texts_numbers (map base64_text blobs), tt)

  elements_numbers : (as' : av.Elements) → ItemsHaveNumbers (items_outline (elements_json as'))
  elements_numbers av.no_elements = tt
  elements_numbers (av.element a as') = (value_numbers a, elements_numbers as')

  members_numbers : (ms : Members) → MembersHaveNumbers (members_outline (members_json ms))
  members_numbers av.no_members = tt
  members_numbers (av.member name a ms) = (value_numbers a, members_numbers ms)

pub spelled : (text name : List ℕ) (ms : Members) → IsWritable name ms → text ≡ compact_text (one_member name (item_json ms)) → SpellsItem text name ms
spelled text name ms may is =
    let j = one_member name (item_json ms) in
    let printable = ArePrintable-json_tokens (outline j) (members_numbers ms, tt) in
    (may, ap tokens (is ∙ sym (print-outline j)) ∙ tokens-print (tokens_of j) printable)
