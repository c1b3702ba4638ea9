use Rattle.std.proofs.Common.{rules, ◌≡◌, List, [], ◌∷◌, ◌++◌, map, sym, ap, ◌∙◌, subst, append_assoc}
use Rattle.dynamo_json.proofs.Common.{take_all, AllByRecursion, IsDistinct, keys_of, string_eq}
use Rattle.dynamo_json.proofs.Common.{Entry, HasBytes, view, elements_view, AttributeValue, json_of}
use Rattle.dynamo_json.proofs.Common.{elements_json, KeysDiffer}
use Rattle.serde_json.specs.View as sj
use Rattle.dynamo_json.proofs.Differ.{one_more, elements_differ, entries_differ}
use Rattle.dynamo_json.proofs.Written.{written, written_bytes, elements_have_bytes, elements_json-elements_of}
use Rattle.dynamo_json.proofs.to_json.+write.Goals as goal

pub object-loop-key-preserved : goal.object-loop-key-preserved
object-loop-key-preserved t c =
    let l = c.loop-key in
    let done = l.invariant.done in
    let e : Entry = (c.in-Some.key.now, c.in-Some.member.now) in
    let left = c.next.new.self in
    let all : c.args.map.now.entries ≡ done ++ e ∷ left = l.invariant.rest ∙ ap (λ (es : List Entry). done ++ es) c.in-Some.ensures.steps in
    let distinct = subst (λ (es : List Entry). IsDistinct string_eq (keys_of es)) all c.iter-key-items.ensures.unique in
    record {
      done = done ++ e ∷ [];
      rest = all ∙ sym (append_assoc done (e ∷ []) left);
      json = written l.object.entries c.insert.new.self.entries done left e c.in_ok-name.name c.in_ok-value.field-0 distinct
          l.invariant.json c.in_ok-insert.ensures.entries c.in_ok-name.ensures.cases c.in_ok-value.ensures.json;
      bytes = written_bytes done left e distinct l.invariant.bytes c.in_ok-value.ensures.bytes;
      keys = one_more done e l.invariant.keys c.in_ok-value.ensures.keys;
    }

pub array-returns-clause-json : goal.array-returns-clause-json
array-returns-clause-json t c =
    let items = c.deref-element-items.result.now in
    let all = take_all c.loop-element.element-index items c.loop-element-test.false in
    ap sj.items_of (c.loop-element.invariant.json ∙ ap (λ (vs : List AttributeValue). map json_of (map view vs)) all)
    ∙ sym (elements_json-elements_of (map view items)) ∙ ap (λ (vs : List AttributeValue). elements_json (elements_view vs)) c.deref-element-items.ensures.value

pub array-returns-clause-bytes : goal.array-returns-clause-bytes
array-returns-clause-bytes t c =
    let items = c.deref-element-items.result.now in
    let all = take_all c.loop-element.element-index items c.loop-element-test.false in
    let good = subst (λ (vs : List AttributeValue). AllByRecursion HasBytes (map view vs)) all c.loop-element.invariant.bytes in
    rw (← c.deref-element-items.ensures.value) (elements_have_bytes (map view items) good)

pub array-returns-clause-keys : goal.array-returns-clause-keys
array-returns-clause-keys t c =
    let items = c.deref-element-items.result.now in
    let all = take_all c.loop-element.element-index items c.loop-element-test.false in
    let each = subst (AllByRecursion KeysDiffer) all c.loop-element.invariant.keys in
    rw (← c.deref-element-items.ensures.value) (elements_differ items each)

pub object-returns-clause-keys : goal.object-returns-clause-keys
object-returns-clause-keys t c =
    let all : c.args.map.now.entries ≡ c.loop-key.invariant.done = search rules in
    entries_differ c.args.map.now.entries c.iter-key-items.ensures.unique (rw all c.loop-key.invariant.keys)
