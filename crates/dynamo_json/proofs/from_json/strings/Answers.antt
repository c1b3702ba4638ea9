use Rattle.std.proofs.Common.{string_bytes, sym, ap, ◌∙◌, rules, Ok}
use Rattle.dynamo_json.proofs.Common.{Value, fault_of, Refused, refusal_in, each_in, string_in}
use Rattle.serde_json.specs.View as sj
use Rattle.dynamo_json.proofs.Each.{goes_on_at, stops_at, all_done}
use Rattle.dynamo_json.proofs.Reading.{each_in-items_view}
use Rattle.dynamo_json.proofs.from_json.strings.Goals as goal

pub returns-in_err-string-clause-err : goal.returns-in_err-string-clause-err
returns-in_err-string-clause-err c =
    let items = c.deref-json-items.result.now in
    let f = λ (v : Value). string_in (sj.view v) in
    let e = fault_of c.in_err-string.field-0.0 in
    let r = stops_at f items c.loop-json.json-index c.json-item.result _ e c.loop-json-test.true c.json-item.is c.loop-json.invariant c.in_err-string.ensures.err in
    let s : Refused (refusal_in (each_in string_in (sj.items_view c.args.array.now.items))) e =
    rw (each_in-items_view string_in c.args.array.now.items, ← c.deref-json-items.ensures.value) r in
    search (rules, s)

pub loop-json-preserved : goal.loop-json-preserved
loop-json-preserved c =
    let items = c.deref-json-items.result.now in
    let made = c.in_ok-from_str in
    rw c.in_ok-push.ensures.items (goes_on_at (λ v. string_in (sj.view v)) string_bytes items c.loop-json.json-index c.json-item.result c.loop-json.strings.items made.field-0
    c.loop-json-test.true c.json-item.is c.loop-json.invariant (c.in_ok-string.ensures.ok ∙ ap Ok (sym made.ensures.ok)))

pub returns-clause-ok : goal.returns-clause-ok
returns-clause-ok c =
    let items = c.deref-json-items.result.now in
    let all = all_done (λ (v : Value). string_in (sj.view v)) items c.loop-json.json-index _ c.loop-json-test.false c.loop-json.invariant in
    rw (each_in-items_view string_in c.args.array.now.items, ← c.deref-json-items.ensures.value) all
