use Rattle.std.proofs.Common.{◌≡◌, List, [], ◌∷◌, ◌++◌, Ok, ap, sym, ◌∙◌, append_assoc, append-nil, rules, string_bytes, map}
use Rattle.serde_json.specs.View as sj
use Rattle.serde_json.proofs.Views.{Entry}
use Rattle.dynamo_value.specs.Kind.{fault_of}
use Rattle.dynamo_value.specs.Refusal.{Refused, refusal_in}
use Rattle.dynamo_value.specs.Steps.{◌>>=◌}
use Rattle.dynamo_json.proofs.Each.{goes_on, stops}
use Rattle.exports.specs.Requests.{asked, asked_of_table, tables_in}
use Rattle.exports.proofs.Entries.{table_in, table_refused, tables_each, seen_last}
use Rattle.exports.proofs.requests.tables.Goals as goal

pub returns-in_err-requests-clause-err : goal.returns-in_err-requests-clause-err
returns-in_err-requests-clause-err c =
    let l = c.loop-name in
    let done = l.invariant.0 in
    let e : Entry = (c.in-Some.name.now, c.in-Some.json.now) in
    let left = c.next.new.self in
    let all : c.args.object.now.entries ≡ done ++ e ∷ left = l.invariant.1 ∙ ap (λ (es : List Entry). done ++ es) c.in-Some.ensures.steps in
    let f = fault_of c.in_err-requests.field-0.0 in
    let r = stops table_in done e left _ f l.invariant.2 (table_refused e f c.in_err-requests.ensures.err) in
    let s : Refused (refusal_in (tables_in (sj.members_view c.args.object.now.entries))) f = rw (all, tables_each (done ++ e ∷ left)) r in
    search (rules, s)

pub loop-name-preserved : goal.loop-name-preserved
loop-name-preserved c =
    let l = c.loop-name in
    let done = l.invariant.0 in
    let e : Entry = (c.in-Some.name.now, c.in-Some.json.now) in
    let left = c.next.new.self in
    let all : c.args.object.now.entries ≡ done ++ e ∷ left = l.invariant.1 ∙ ap (λ (es : List Entry). done ++ es) c.in-Some.ensures.steps in
    let here : table_in e ≡ Ok (string_bytes e.0, map asked c.in_ok-requests.requests.items) = ap (λ r. r >>= λ x. Ok (string_bytes e.0, x)) c.in_ok-requests.ensures.ok in
    let named : string_bytes c.in_ok-table.table ≡ string_bytes e.0 = c.in_ok-table.ensures.cases in (
      done ++ e ∷ [],
      all ∙ sym (append_assoc done (e ∷ []) left),
      goes_on table_in done e (map asked_of_table l.tables.items) _ l.invariant.2 here ∙ ap Ok (seen_last l.tables.items c.in_ok-table.table c.in_ok-requests.requests (string_bytes e.0) named ∙ ap (map asked_of_table) (sym c.in_ok-push.ensures.items)),
    )

pub returns-clause-ok : goal.returns-clause-ok
returns-clause-ok c =
    let l = c.loop-name in
    let all : c.args.object.now.entries ≡ l.invariant.0 = l.invariant.1 ∙ ap (λ (es : List Entry). l.invariant.0 ++ es) c.in-None.ensures.steps.0 ∙ append-nil l.invariant.0 in
    rw (all, tables_each l.invariant.0) l.invariant.2
