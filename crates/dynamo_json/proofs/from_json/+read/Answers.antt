use Rattle.std.proofs.Common.{◌≡◌, List, [], ◌∷◌, ◌++◌, Ok, ap, sym, subst, ◌∙◌, append_assoc, append-nil, rules, string_bytes}
use Rattle.dynamo_json.proofs.Common.{IsStrictlySortedBy, keys_of, string_cmp, view-Array}
use Rattle.dynamo_json.proofs.Common.{view-Object, fault_of, Refused, refusal_in, ◌>>=◌, view}
use Rattle.dynamo_json.proofs.Common.{entries_view, inserted, parsed_content, parsed_elements}
use Rattle.dynamo_json.proofs.Common.{parsed_members}
use Rattle.serde_json.specs.Data as json
use Rattle.serde_json.specs.View as sj
use Rattle.serde_json.proofs.Views.{Entry}
use Rattle.dynamo_value.specs.PrefixView.{prefix_view}
use Rattle.dynamo_json.proofs.Each.{goes_on, goes_on_at, stops, stops_at, all_done}
use Rattle.dynamo_json.proofs.Reading.{value_in, elements_refused, elements_read, member_in, members_refused, members_read, member_refused, put_last, map_refused, list_refused, no_next, single_member}
use Rattle.dynamo_json.proofs.from_json.+read.Goals as goal

-- ---- arrays

pub elements-returns-in_err-value-clause-err : goal.elements-returns-in_err-value-clause-err
elements-returns-in_err-value-clause-err t c =
    let items = c.deref-json-items.result.now in
    let e = fault_of c.in_err-value.field-0.0 in
    let r = stops_at value_in items c.loop-json.json-index c.json-item.result _ e c.loop-json-test.true c.json-item.is c.loop-json.invariant c.in_err-value.ensures.err in
    let s : Refused (refusal_in (parsed_elements (sj.items_view c.args.array.now.items))) e = rw (← c.deref-json-items.ensures.value) (elements_refused items e r) in
    search (rules, s)

pub elements-loop-json-preserved : goal.elements-loop-json-preserved
elements-loop-json-preserved t c =
    let items = c.deref-json-items.result.now in
    rw c.in_ok-push.ensures.items (goes_on_at value_in view items c.loop-json.json-index c.json-item.result c.loop-json.elements.items c.in_ok-value.field-0
    c.loop-json-test.true c.json-item.is c.loop-json.invariant c.in_ok-value.ensures.ok)

pub elements-returns-clause-ok : goal.elements-returns-clause-ok
elements-returns-clause-ok t c =
    let items = c.deref-json-items.result.now in
    rw (← c.deref-json-items.ensures.value) (elements_read items _ (all_done value_in items c.loop-json.json-index _ c.loop-json-test.false c.loop-json.invariant))

-- ---- objects

pub members-returns-in_err-value-clause-err : goal.members-returns-in_err-value-clause-err
members-returns-in_err-value-clause-err t c =
    let l = c.loop-key in
    let done = l.invariant.0 in
    let e : Entry = (c.in-Some.key.now, c.in-Some.json.now) in
    let left = c.next.new.self in
    let all : c.args.object.now.entries ≡ done ++ e ∷ left = l.invariant.1 ∙ ap (λ (es : List Entry). done ++ es) c.in-Some.ensures.steps in
    let f = fault_of c.in_err-value.field-0.0 in
    let r = stops member_in done e left _ f l.invariant.2 (member_refused e f c.in_err-value.ensures.err) in
    let s : Refused (refusal_in (parsed_members (sj.members_view c.args.object.now.entries))) f = rw all (members_refused (done ++ e ∷ left) f r) in
    search (rules, s)

pub members-loop-key-preserved : goal.members-loop-key-preserved
members-loop-key-preserved t c =
    let l = c.loop-key in
    let done = l.invariant.0 in
    let e : Entry = (c.in-Some.key.now, c.in-Some.json.now) in
    let left = c.next.new.self in
    let all : c.args.object.now.entries ≡ done ++ e ∷ left = l.invariant.1 ∙ ap (λ (es : List Entry). done ++ es) c.in-Some.ensures.steps in
    let sorted = subst (λ (es : List Entry). IsStrictlySortedBy string_cmp (keys_of es)) all c.iter-key-items.ensures.ordered in
    let a = c.in_ok-value.field-0 in
    let name = c.in_ok-name.name in
    let named : string_bytes name ≡ string_bytes e.0 = c.in_ok-name.ensures.cases in
    let here : member_in e ≡ Ok (string_bytes e.0, view a) = ap (λ r. r >>= λ x. Ok (string_bytes e.0, x)) c.in_ok-value.ensures.ok in
    let held = inserted l.map c.insert.new.self name a c.in_ok-insert.ensures.updates in
    let last = put_last done e left (entries_view l.map.entries) (view a) sorted l.invariant.2 in (
      done ++ e ∷ [],
      all ∙ sym (append_assoc done (e ∷ []) left),
      goes_on member_in done e (entries_view l.map.entries) (string_bytes e.0, view a) l.invariant.2 here ∙ ap Ok (sym (held ∙ rw named last)),
    )

pub members-returns-clause-ok : goal.members-returns-clause-ok
members-returns-clause-ok t c =
    let l = c.loop-key in
    let all : c.args.object.now.entries ≡ l.invariant.0 = l.invariant.1 ∙ ap (λ (es : List Entry). l.invariant.0 ++ es) c.in-None.ensures.steps.0 ∙ append-nil l.invariant.0 in
    rw all (members_read l.invariant.0 _ l.invariant.2)

-- ---- what is under a prefix

pub under-returns-in_err-members-in-M-Object-clause-err : goal.under-returns-in_err-members-in-M-Object-clause-err
under-returns-in_err-members-in-M-Object-clause-err t c =
    let e = fault_of c.in_err-members-in-M-Object.field-0.0 in
    let ms = sj.members_view c.in-M-Object.object.entries in
    let v : sj.view c.args.content.now ≡ json.object ms = rw c.in-M-Object.is-1 (view-Object c.in-M-Object.object) in
    let s : Refused (refusal_in (parsed_content (sj.view c.args.content.now) (prefix_view c.args.prefix))) e =
    rw (v, c.in-M-Object.is-0) (map_refused ms e c.in_err-members-in-M-Object.ensures.err) in
    search (rules, s)

pub under-returns-in_err-elements-in-L-Array-clause-err : goal.under-returns-in_err-elements-in-L-Array-clause-err
under-returns-in_err-elements-in-L-Array-clause-err t c =
    let e = fault_of c.in_err-elements-in-L-Array.field-0.0 in
    let js = sj.items_view c.in-L-Array.array.items in
    let v : sj.view c.args.content.now ≡ json.array js = rw c.in-L-Array.is-1 (view-Array c.in-L-Array.array) in
    let s : Refused (refusal_in (parsed_content (sj.view c.args.content.now) (prefix_view c.args.prefix))) e =
    rw (v, c.in-L-Array.is-0) (list_refused js e c.in_err-elements-in-L-Array.ensures.err) in
    search (rules, s)

-- ---- the object of one member

pub value-returns-clause-ok : goal.value-returns-clause-ok
value-returns-clause-ok t c =
    let none = no_next c.next-2.result c.next.new.self c.next-2.new.self _ c.next-2.ensures.steps (search (rules, c.if-is_some.false, c.is_some.ensures)) in
    let all : c.in-Object.object.entries ≡ (c.in-Some.key.now, c.in-Some.content.now) ∷ [] = search (rules, c.iter-entries.ensures.rest, c.in-Some.ensures.steps, none) in
    let e = single_member c.args.json.now c.in-Object.object c.in-Some.key.now c.in-Some.content.now (prefix_view c.in-Some-named.prefix) c.in-Object.is all
    (search (rules, c.named.ensures, c.in-Some-named.is, c.deref.ensures)) in
    rw e c.under.ensures.ok

pub value-returns-clause-err : goal.value-returns-clause-err
value-returns-clause-err t c =
    let none = no_next c.next-2.result c.next.new.self c.next-2.new.self _ c.next-2.ensures.steps (search (rules, c.if-is_some.false, c.is_some.ensures)) in
    let all : c.in-Object.object.entries ≡ (c.in-Some.key.now, c.in-Some.content.now) ∷ [] = search (rules, c.iter-entries.ensures.rest, c.in-Some.ensures.steps, none) in
    let e = single_member c.args.json.now c.in-Object.object c.in-Some.key.now c.in-Some.content.now (prefix_view c.in-Some-named.prefix) c.in-Object.is all
    (search (rules, c.named.ensures, c.in-Some-named.is, c.deref.ensures)) in
    rw e c.under.ensures.err
