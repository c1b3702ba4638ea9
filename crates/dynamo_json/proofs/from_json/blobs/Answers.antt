use Rattle.std.proofs.Common.{ap, ◌∙◌, rules, Vec, Global, ℕ}
use Rattle.dynamo_json.proofs.Common.{Value, bytes_of_base64, fault_of, Refused, refusal_in, ◌>>=◌}
use Rattle.dynamo_json.proofs.Common.{each_in, blob_in, string_in}
use Rattle.serde_json.specs.View as sj
use Rattle.dynamo_json.proofs.Each.{goes_on_at, stops_at, all_done, refused_as}
use Rattle.dynamo_json.proofs.Reading.{each_in-items_view}
use Rattle.dynamo_json.proofs.from_json.blobs.Goals as goal

pub returns-in_err-string-clause-err : goal.returns-in_err-string-clause-err
returns-in_err-string-clause-err c =
    let items = c.deref-json-items.result.now in
    let f = λ (v : Value). blob_in (sj.view v) in
    let d = sj.view c.json-item.result in
    let e = fault_of c.in_err-string.field-0.0 in
    let here = refused_as (string_in d) (blob_in d) e (λ x k. ap (λ r. r >>= bytes_of_base64) k) c.in_err-string.ensures.err in
    let r = stops_at f items c.loop-json.json-index c.json-item.result _ e c.loop-json-test.true c.json-item.is c.loop-json.invariant here in
    let s : Refused (refusal_in (each_in blob_in (sj.items_view c.args.array.now.items))) e =
    rw (each_in-items_view blob_in c.args.array.now.items, ← c.deref-json-items.ensures.value) r in
    search (rules, s)

pub returns-in_err-decode-clause-err : goal.returns-in_err-decode-clause-err
returns-in_err-decode-clause-err c =
    let items = c.deref-json-items.result.now in
    let f = λ (v : Value). blob_in (sj.view v) in
    let d = sj.view c.json-item.result in
    let e = fault_of c.in_err-decode.field-0.0 in
    let text = c.in_ok-string.field-0.now in
    let here = refused_as (bytes_of_base64 text) (blob_in d) e (λ x k. ap (λ r. r >>= bytes_of_base64) c.in_ok-string.ensures.ok ∙ k) c.in_err-decode.ensures.err in
    let r = stops_at f items c.loop-json.json-index c.json-item.result _ e c.loop-json-test.true c.json-item.is c.loop-json.invariant here in
    let s : Refused (refusal_in (each_in blob_in (sj.items_view c.args.array.now.items))) e =
    rw (each_in-items_view blob_in c.args.array.now.items, ← c.deref-json-items.ensures.value) r in
    search (rules, s)

pub loop-json-preserved : goal.loop-json-preserved
loop-json-preserved c =
    let items = c.deref-json-items.result.now in
    let here = ap (λ r. r >>= bytes_of_base64) c.in_ok-string.ensures.ok ∙ c.in_ok-decode.ensures.ok in
    rw c.in_ok-push.ensures.items (goes_on_at (λ v. blob_in (sj.view v)) (λ (b : Vec ℕ Global). b.items) items c.loop-json.json-index c.json-item.result c.loop-json.blobs.items c.in_ok-decode.field-0
    c.loop-json-test.true c.json-item.is c.loop-json.invariant here)

pub returns-clause-ok : goal.returns-clause-ok
returns-clause-ok c =
    let items = c.deref-json-items.result.now in
    let all = all_done (λ (v : Value). blob_in (sj.view v)) items c.loop-json.json-index _ c.loop-json-test.false c.loop-json.invariant in
    rw (each_in-items_view blob_in c.args.array.now.items, ← c.deref-json-items.ensures.value) all
