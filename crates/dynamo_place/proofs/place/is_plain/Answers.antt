use Rattle.std.proofs.Common.{◌≡◌, ◌∙◌, ◌&&◌, ◌==◌, not, false, length, chars, sym, ap, rules, tests}
use Rattle.std.specs.List.{list_all}
use Rattle.std.proofs.lemmas.Iterator.{YieldsList-from_chars}
use Rattle.std.proofs.lemmas.Iterator.Search.{all_from_yields_List}
use Rattle.dynamo_place.specs.PlaceText.{is_plain_char}
use Rattle.dynamo_place.proofs.place.is_plain.Goals as goal

pub returns-then-not-is_empty : goal.returns-then-not-is_empty
returns-then-not-is_empty c =
    let name = c.args.name.now in
    let some : (length name == 0) ≡ false = sym c.is_empty.ensures ∙ c.if-not-is_empty.true in
    let all = all_from_yields_List is_plain_char _ _ c.all.result c.all.ensures.ran (YieldsList-from_chars name c.utf8.name cc) (λ x b q k. search (rules, tests)) in
    all ∙ ap (λ b. not b && list_all is_plain_char (chars name)) (sym some)
