use Rattle.std.proofs.Common.{◌≡◌, ◌∙◌, ◌<◌, List, [], ◌∷◌, ◌++◌, Ok, Err, drop, ap, sym, subst, rules, arith, string_bytes}
use Rattle.dynamo_json.proofs.Common.{drop_all, err_from_is_err_and, key, Members, members_of, view}
use Rattle.dynamo_json.proofs.Common.{elements_view, entries_view, members_view, AttributeValue, Refusal}
use Rattle.dynamo_json.proofs.Common.{view_sorted, plain_members, Lent, lent_view}
use Rattle.dynamo_value.proofs.Views.{view_map}
use Rattle.dynamo_value.specs.Refusal.{Says}
use Rattle.dynamo_json.specs.StoredText.{PrintsPlain, plain, plain_elements}
use Rattle.dynamo_json.proofs.Stored.{next_of, stopped}
use Rattle.dynamo_json.proofs.Unstored.{elements_behind, element_read, element_refused, elements_begun, members_behind}
use Rattle.dynamo_json.proofs.Unstored.{member_read, member_refused, members_begun, map_read}
use Rattle.dynamo_json.proofs.Weight.{weight, elements_weight, members_weight, element_weighs_less, member_weighs_less}
use Rattle.dynamo_json.proofs.json_text.Printer.+plain.Goals as goal

pub plain_elements-plain-requires : goal.plain_elements-plain-requires
plain_elements-plain-requires t c =
    let xs = c.deref-element-items.result.now in
    let x = c.element-item.result in
    let smaller : weight (view x) < elements_weight (elements_view c.args.list.now.items) =
    subst (λ (ys : List AttributeValue). weight (view x) < elements_weight (elements_view ys)) c.deref-element-items.ensures.value
    (subst (λ (y : AttributeValue). weight (view y) < elements_weight (elements_view xs))
    (sym c.element-item.is) (element_weighs_less xs c.loop-element.element-index x (omega arith))) in
    search rules

pub plain_elements-returns-in_err-plain-clause-tokens : goal.plain_elements-returns-in_err-plain-clause-tokens
plain_elements-returns-in_err-plain-clause-tokens t c =
    let now = c.loop-element.self.out.tokens in
    let xs = c.deref-element-items.result.now in
    let x = c.element-item.result in
    let i = c.loop-element.element-index in
    let failed = err_from_is_err_and c.from_residual-in_err-plain.result c.from_residual-in_err-plain.ensures.1 in
    let same : (why : Refusal) → plain now (view x) ≡ Err why
    → plain_elements c.args.self.now.out.tokens (elements_view c.args.list.now.items) ≡ Err why = λ why h.
    elements_begun _ _ c.begin_array.new.self.tokens now (elements_view (drop i xs)) (elements_view xs) c.in_ok-begin_array.ensures.ok
    (ap elements_view (sym c.deref-element-items.ensures.value)) c.loop-element.invariant.tokens
    ∙ next_of (λ vs. elements_behind now (elements_view vs)) (λ _. Err why) xs i x (omega arith) c.element-item.is
    (λ rest. element_refused now (view x) (elements_view rest) why h) in
    stopped Says _ c.in_err-plain.field-0.0 _ _ c.plain.new.self.out.tokens _ (failed.1 ∙ ap Err failed.2) c.in_err-plain.ensures.tokens same

pub plain_elements-loop-element-preserved : goal.plain_elements-loop-element-preserved
plain_elements-loop-element-preserved t c =
    let now = c.loop-element.self.out.tokens in
    let new = c.plain.new.self.out.tokens in
    let xs = c.deref-element-items.result.now in
    let x = c.element-item.result in
    record {
      tokens = sym (next_of (λ vs. elements_behind now (elements_view vs))
          (λ vs. elements_behind new (elements_view vs)) xs c.loop-element.element-index x (omega arith)
          c.element-item.is
          (λ rest. element_read now new (view x) (elements_view rest) c.in_ok-plain.ensures.tokens)) ∙ c.loop-element.invariant.tokens;
      before = c.plain.ensures.before ∙ c.loop-element.invariant.before;
    }

pub plain_members-plain-requires : goal.plain_members-plain-requires
plain_members-plain-requires t c =
    let xs = c.deref-member-items.result.now in
    let x = c.member-item.result in
    let all : lent_view xs ≡ members_view c.args.map.now.entries = ap lent_view c.deref-member-items.ensures.value ∙ ap members_of c.in_ok-members.ensures in
    let smaller : weight (view x.1.now) < members_weight (members_view c.args.map.now.entries) =
    subst (λ (ms : Members). weight (view x.1.now) < members_weight ms) all
    (subst (λ (y : Lent). weight (view y.1.now) < members_weight (lent_view xs)) (sym c.member-item.is)
    (member_weighs_less xs c.loop-member.member-index x (omega arith))) in
    search rules

pub plain_members-returns-in_err-plain-clause-tokens : goal.plain_members-returns-in_err-plain-clause-tokens
plain_members-returns-in_err-plain-clause-tokens t c =
    let now = c.loop-member.self.out.tokens in
    let xs = c.deref-member-items.result.now in
    let x = c.member-item.result in
    let i = c.loop-member.member-index in
    let es = entries_view c.args.map.now.entries in
    let all = ap lent_view c.deref-member-items.ensures.value ∙ ap members_of c.in_ok-members.ensures in
    let keyed = c.in_ok-key.ensures.ok ∙ ap (λ t. now ++ key t ∷ []) c.as_str.ensures.value in
    let failed = err_from_is_err_and c.from_residual-in_err-plain.result c.from_residual-in_err-plain.ensures.1 in
    let same : (why : Refusal) → plain c.key.new.self.tokens (view x.1.now) ≡ Err why
    → plain_members c.args.self.now.out.tokens (members_view c.args.map.now.entries) ≡ Err why = λ why h.
    members_begun _ es c.begin_object.new.self.tokens now (lent_view (drop i xs)) (lent_view xs)
    (view_sorted c.args.map.now.entries) c.in_ok-begin_object.ensures.ok
    (sym all) c.loop-member.invariant.tokens
    ∙ next_of (λ ps. members_behind now (lent_view ps)) (λ _. Err why) xs i x (omega arith) c.member-item.is
    (λ rest. member_refused now (string_bytes x.0.now) (view x.1.now) (lent_view rest) why (ap (λ ts. plain ts (view x.1.now)) (sym keyed) ∙ h)) in
    stopped Says _ c.in_err-plain.field-0.0 _ _ c.plain.new.self.out.tokens _ (failed.1 ∙ ap Err failed.2) c.in_err-plain.ensures.tokens same

pub plain_members-loop-member-preserved : goal.plain_members-loop-member-preserved
plain_members-loop-member-preserved t c =
    let now = c.loop-member.self.out.tokens in
    let new = c.plain.new.self.out.tokens in
    let xs = c.deref-member-items.result.now in
    let x = c.member-item.result in
    let keyed = c.in_ok-key.ensures.ok ∙ ap (λ t. now ++ key t ∷ []) c.as_str.ensures.value in
    let read : plain (now ++ key (string_bytes x.0.now) ∷ []) (view x.1.now) ≡ Ok new =
    ap (λ ts. plain ts (view x.1.now)) (sym keyed) ∙ c.in_ok-plain.ensures.tokens in
    record {
      tokens = sym (next_of (λ ps. members_behind now (lent_view ps))
          (λ ps. members_behind new (lent_view ps)) xs c.loop-member.member-index x (omega arith)
          c.member-item.is
          (λ rest. member_read now new (string_bytes x.0.now) (view x.1.now) (lent_view rest) read)) ∙ c.loop-member.invariant.tokens;
      before = search rules;
    }

pub plain_members-returns-clause-tokens : goal.plain_members-returns-clause-tokens
plain_members-returns-clause-tokens t c =
    let now = c.loop-member.self.out.tokens in
    let xs = c.deref-member-items.result.now in
    let i = c.loop-member.member-index in
    let none : drop i xs ≡ [] = drop_all i xs (omega arith) in
    members_begun _ (entries_view c.args.map.now.entries) c.begin_object.new.self.tokens now
    (lent_view (drop i xs)) (lent_view xs) (view_sorted c.args.map.now.entries)
    c.in_ok-begin_object.ensures.ok
    (sym (ap lent_view c.deref-member-items.ensures.value ∙ ap members_of c.in_ok-members.ensures)) c.loop-member.invariant.tokens
    ∙ ap (λ ps. members_behind now (lent_view ps)) none ∙ ap Ok (sym c.in_ok-end_object.ensures.ok)

pub plain-returns-in-M-clause-tokens : goal.plain-returns-in-M-clause-tokens
plain-returns-in-M-clause-tokens t c =
    let old = c.args.self.now.out.tokens in
    let is = ap view c.in-M.is ∙ view_map c.in-M.map in
    subst (λ whole. PrintsPlain c.plain_members.result whole c.plain_members.new.self.out.tokens)
    (sym (ap (plain old) is ∙ map_read old (members_view c.in-M.map.entries)))
    c.plain_members.ensures.tokens
