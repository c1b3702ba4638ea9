use Rattle.std.proofs.Common.{◌≡◌, ◌<◌, [], ◌∷◌, length, IfErr, sym, subst, ◌∙◌, arith}
use Rattle.dynamo_json.proofs.Common.{err_from_is_err_and, tokens, Members, members_view}
use Rattle.dynamo_json.proofs.Common.{SpellsItem, item_json, members_json}
use Rattle.json.specs.Token as token
use Rattle.serde_json.specs.Data as json
use Rattle.dynamo_json.specs.OneMember.{one_member}
use Rattle.dynamo_json.specs.declared.from_text.Stop.{Stop}
use Rattle.dynamo_json.proofs.Followed.{item_ends}
use Rattle.dynamo_json.proofs.InText.{object_stands, single, whole}
use Rattle.dynamo_json.proofs.from_text.attributes_under.Goals as goal

pub returns-clause-members : goal.returns-clause-members
returns-clause-members c =
    let ts = tokens c.args.text.now in
    let name = c.args.name.now in
    let outer = c.begin_object.new.reader in
    let content = c.key_named.new.reader in
    let inner = c.begin_object-2.new.reader in
    let rest = c.members.new.reader in
    let end = c.end_object.new.reader in
    let ms = members_view c.in_ok-map.map.entries in
    let first : ts ≡ token.begin_object ∷ outer =
    sym c.in_ok-reader.ensures.ok ∙ c.in_ok-begin_object.ensures.ok in
    let begun : content ≡ token.begin_object ∷ inner = c.in_ok-begin_object-2.ensures.ok in
    let item = object_stands 126 content inner rest (members_json ms) (omega arith) begun
    c.in_ok-map.ensures.members in
    let less : length rest < length content = rw begun (omega (arith, c.in_ok-map.ensures.shorter)) in
    let stands = single 127 ts outer content rest end name (item_json ms) (omega arith) first
    c.in_ok-key_named.ensures.ok item less c.in_ok-end_object.ensures.ok in
    whole c.args.text.now end (one_member name (item_json ms)) c.in_ok-at_end.ensures.ok stands

-- ---- what follows the item, where the text spells one

pub returns-in_err-end_object-clause-follows : goal.returns-in_err-end_object-clause-follows
returns-in_err-end_object-clause-follows c =
    let text = c.args.text.now in
    let name = c.args.name.now in
    let outer = c.begin_object.new.reader in
    let content = c.key_named.new.reader in
    let rest = c.members.new.reader in
    let js = members_json (members_view c.in_ok-map.map.entries) in
    let item = object_stands 126 content c.begin_object-2.new.reader rest js (omega arith) c.in_ok-begin_object-2.ensures.ok c.in_ok-map.ensures.members in
    let failed = err_from_is_err_and c.from_residual-in_err-end_object.result c.from_residual-in_err-end_object.ensures.1 in
    subst (λ r. IfErr r (λ s. s ≡ Stop.Unlike → (ms : Members) → SpellsItem text name ms → ⊥)) (sym failed.1) (λ e ms h.
    c.in_err-end_object.ensures.err [] (item_ends text name ms (json.object js) outer content rest h
    (sym c.in_ok-reader.ensures.ok ∙ c.in_ok-begin_object.ensures.ok) c.in_ok-key_named.ensures.ok item))

pub returns-in_err-at_end-clause-follows : goal.returns-in_err-at_end-clause-follows
returns-in_err-at_end-clause-follows c =
    let text = c.args.text.now in
    let name = c.args.name.now in
    let outer = c.begin_object.new.reader in
    let content = c.key_named.new.reader in
    let rest = c.members.new.reader in
    let end = c.end_object.new.reader in
    let js = members_json (members_view c.in_ok-map.map.entries) in
    let item = object_stands 126 content c.begin_object-2.new.reader rest js (omega arith) c.in_ok-begin_object-2.ensures.ok c.in_ok-map.ensures.members in
    let failed = err_from_is_err_and c.from_residual-in_err-at_end.result c.from_residual-in_err-at_end.ensures.1 in
    subst (λ r. IfErr r (λ s. s ≡ Stop.Unlike → (ms : Members) → SpellsItem text name ms → ⊥)) (sym failed.1) (λ e ms h.
    let both : token.end_object ∷ end ≡ token.end_object ∷ [] = sym c.in_ok-end_object.ensures.ok ∙ item_ends text name ms (json.object js) outer content rest h
    (sym c.in_ok-reader.ensures.ok ∙ c.in_ok-begin_object.ensures.ok) c.in_ok-key_named.ensures.ok item in
    c.in_err-at_end.ensures.err (let none : end ≡ [] = cc in none))
