use Rattle.std.proofs.Common.{rules}
use Rattle.serde_json.specs.View as sj
use Rattle.serde_json.specs.declared.value.Value.{Value}
use Rattle.dynamo_value.specs.Kind.{fault_of}
use Rattle.dynamo_value.specs.Refusal.{Refused, refusal_in}
use Rattle.dynamo_json.specs.Parsed.{each_in}
use Rattle.dynamo_json.proofs.Each.{goes_on_at, stops_at, all_done}
use Rattle.dynamo_json.proofs.Reading.{each_in-items_view}
use Rattle.exports.specs.Requests.{asked, request_in}
use Rattle.exports.proofs.requests.each_request.Goals as goal

pub returns-in_err-one_request-clause-err : goal.returns-in_err-one_request-clause-err
returns-in_err-one_request-clause-err c =
    let items = c.deref-json-items.result.now in
    let f = λ (v : Value). request_in (sj.view v) in
    let e = fault_of c.in_err-one_request.field-0.0 in
    let r = stops_at f items c.loop-json.json-index c.json-item.result _ e c.loop-json-test.true c.json-item.is c.loop-json.invariant c.in_err-one_request.ensures.err in
    let s : Refused (refusal_in (each_in request_in (sj.items_view c.args.array.now.items))) e =
    rw (each_in-items_view request_in c.args.array.now.items, ← c.deref-json-items.ensures.value) r in
    search (rules, s)

pub loop-json-preserved : goal.loop-json-preserved
loop-json-preserved c =
    let items = c.deref-json-items.result.now in
    rw c.in_ok-push.ensures.items (goes_on_at (λ v. request_in (sj.view v)) asked items c.loop-json.json-index c.json-item.result c.loop-json.requests.items c.in_ok-one_request.field-0
    c.loop-json-test.true c.json-item.is c.loop-json.invariant c.in_ok-one_request.ensures.ok)

pub returns-clause-ok : goal.returns-clause-ok
returns-clause-ok c =
    let items = c.deref-json-items.result.now in
    let all = all_done (λ (v : Value). request_in (sj.view v)) items c.loop-json.json-index _ c.loop-json-test.false c.loop-json.invariant in
    rw (each_in-items_view request_in c.args.array.now.items, ← c.deref-json-items.ensures.value) all
