use Rattle.std.proofs.Common.{rules, ◌≡◌, List, [], ◌∷◌, ◌++◌, map, sym, ap, ◌∙◌, subst, append_assoc}
use Rattle.dynamo_json.proofs.Common.{take_all, AllByRecursion, IsDistinct, keys_of, string_eq}
use Rattle.dynamo_json.proofs.Common.{Entry, HasBytes, view, AttributeValue, KeysDiffer}
use Rattle.dynamo_json.proofs.Differ.{one_more, elements_differ, entries_differ}
use Rattle.dynamo_json.proofs.Written.{written_bytes, elements_have_bytes}
use Rattle.dynamo_json.proofs.conforms.+walk.Goals as goal

pub members-loop-member-preserved : goal.members-loop-member-preserved
members-loop-member-preserved t c =
    let l = c.loop-member in
    let done = l.invariant.done in
    let e : Entry = (c.in-Some.field-0-0.now, c.in-Some.member.now) in
    let left = c.next.new.self in
    let all : c.args.map.now.entries ≡ done ++ e ∷ left =
    l.invariant.rest ∙ ap (λ (es : List Entry). done ++ es) c.in-Some.ensures.steps in
    let distinct = subst (λ (es : List Entry). IsDistinct string_eq (keys_of es)) all c.iter-member-items.ensures.unique in
    record {
      done = done ++ e ∷ [];
      rest = all ∙ sym (append_assoc done (e ∷ []) left);
      bytes = written_bytes done left e distinct l.invariant.bytes c.value.ensures.bytes;
      keys = one_more done e l.invariant.keys c.value.ensures.keys;
    }

pub members-returns-clause-keys : goal.members-returns-clause-keys
members-returns-clause-keys t c =
    let all : c.args.map.now.entries ≡ c.loop-member.invariant.done = search rules in
    entries_differ c.args.map.now.entries c.iter-member-items.ensures.unique (rw all c.loop-member.invariant.keys)

pub elements-returns-clause-bytes : goal.elements-returns-clause-bytes
elements-returns-clause-bytes t c =
    let items = c.deref-element-items.result.now in
    let all = take_all c.loop-element.element-index items c.loop-element-test.false in
    let good = subst (λ (vs : List AttributeValue). AllByRecursion HasBytes (map view vs)) all c.loop-element.invariant.bytes in
    rw (← c.deref-element-items.ensures.value) (elements_have_bytes (map view items) good)

pub elements-returns-clause-keys : goal.elements-returns-clause-keys
elements-returns-clause-keys t c =
    let items = c.deref-element-items.result.now in
    let all = take_all c.loop-element.element-index items c.loop-element-test.false in
    let each = subst (AllByRecursion KeysDiffer) all c.loop-element.invariant.keys in
    rw (← c.deref-element-items.ensures.value) (elements_differ items each)
