use Rattle.std.proofs.Common.{◌≡◌, ◌∙◌, ◌<◌, List, ap, sym, subst, rules, arith}
use Rattle.dynamo_json.proofs.Common.{Members, view, elements_view, members_view, AttributeValue}
use Rattle.dynamo_json.proofs.Common.{Lent, lent_view, members_of}
use Rattle.dynamo_json.proofs.Weight.{weight, elements_weight, members_weight, element_weighs_less, member_weighs_less}
use Rattle.dynamo_json.proofs.json_text.Printer.+print.Goals as goal

pub elements-value-requires : goal.elements-value-requires
elements-value-requires t c =
    let xs = c.deref-element-items.result.now in
    let x = c.element-item.result in
    let smaller : weight (view x) < elements_weight (elements_view c.args.list.now.items) =
    subst (λ (ys : List AttributeValue). weight (view x) < elements_weight (elements_view ys)) c.deref-element-items.ensures.value
    (subst (λ (y : AttributeValue). weight (view y) < elements_weight (elements_view xs)) (sym c.element-item.is) (element_weighs_less xs c.loop-element.element-index x (omega arith))) in
    search rules

pub object-value-requires : goal.object-value-requires
object-value-requires t c =
    let xs = c.deref-member-items.result.now in
    let x = c.member-item.result in
    let all : lent_view xs ≡ members_view c.args.map.now.entries = ap lent_view c.deref-member-items.ensures.value ∙ ap members_of c.in_ok-members.ensures in
    let smaller : weight (view x.1.now) < members_weight (members_view c.args.map.now.entries) =
    subst (λ (ms : Members). weight (view x.1.now) < members_weight ms) all
    (subst (λ (y : Lent). weight (view y.1.now) < members_weight (lent_view xs)) (sym c.member-item.is) (member_weighs_less xs c.loop-member.member-index x (omega arith))) in
    search rules
