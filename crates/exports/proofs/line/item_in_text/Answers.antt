use Rattle.std.proofs.Common.{◌≡◌, ℕ, List, Option, Some, None, Result, Ok, Err, IfOk, IfSome, codes, inl}
use Rattle.std.specs.Prelude.{IsUtf8}
use Rattle.serde_json.specs.Read.{read}
use Rattle.dynamo_value.specs.Item.{item_view}
use Rattle.dynamo_value.specs.declared.item.Item.{Item}
use Rattle.dynamo_json.specs.Json.{item_json}
use Rattle.dynamo_json.specs.OneMember.{one_member}
use Rattle.dynamo_json.specs.Parsed.{parsed_item}
use Rattle.exports.specs.Items.{ReadsLine}
use Rattle.exports.proofs.line.item_in_text.Goals as goal

-- the item that is read of a text whose JSON object has it alone
abbrev Stands : List ℕ → Item → Type 0
Stands text item = read text ≡ Some (one_member (codes "Item") (item_json (item_view item)))

abbrev ReadsBack : Item → Type 0
ReadsBack item = parsed_item (item_json (item_view item)) ≡ Ok (item_view item)

text_reads : {E : Type 0} (text : List ℕ) (found : Result (Option Item) E) → IsUtf8 text
    → IfOk found (λ o. IfSome o (Stands text)) → IfOk found (λ o. IfSome o ReadsBack)
    → IfOk found (λ o. IfSome o (λ item. ReadsLine text (Ok item)))
text_reads text (Err e) utf8 stands back = tt
text_reads text (Ok None) utf8 stands back = tt
text_reads text (Ok (Some item)) utf8 stands back = inl (one_member (codes "Item") (item_json (item_view item)), (utf8, stands), back)

pub returns : goal.returns
returns c = text_reads c.args.text.now c.item_under.result c.utf8.text c.item_under.ensures.item c.item_under.ensures.read
