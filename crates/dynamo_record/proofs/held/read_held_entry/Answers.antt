use Rattle.std.proofs.Common.{◌≡◌, ◌<◌, ◌≤◌, ◌+◌, ◌^◌, [], Ok, Err, length, ap, sym, subst, ◌∙◌, arith}
use Rattle.dynamo_record.proofs.Common.{length-map, err_from_is_err_and, Meets, attribute}
use Rattle.dynamo_record.proofs.Common.{meets_more, FillsAt, Fills, listed, record_fields, place_in}
use Rattle.dynamo_de.specs.declared.ignored_any.IgnoredAny.{IgnoredAny}
use Rattle.dynamo_record.proofs.OneEntry.{fills_there, Ignored, ignored, not_ignored}
use Rattle.dynamo_record.proofs.Structs.{place_named}
use Rattle.dynamo_record.proofs.held.read_held_entry.Goals as goal

pub returns-then-place-names : goal.returns-then-place-names
returns-then-place-names g c = λ named e os key is h.
    let l = g.R.Fields.FieldList.about in
    let a = listed g.R.Record.about l in
    let ss = l.shapes [] in
    let place = c.place_of-place.result in
    let at : place ≡ place_in 0 (record_fields a) e.0 = c.place_of-place.ensures ∙ place_named a named _ _ e.0 c.names-names.ensures key in
    let all : length c.names-names.result.now ≡ length ss = sym (length-map c.names-names.result.now (λ n. n.now)) ∙ (ap length c.names-names.ensures ∙ named.1) in
    let there : place < length ss = omega (arith, all, c.if-place-names.true) in
    let counted : length ss ≡ l.count + 0 = g.met.R.Fields.FieldList.behind.counted [] in
    let inside : place < l.count = omega (arith, there, counted) in
    let bound = c.names-names.type_inv.0 in
    let fits : place + 1 < 2 ^ 64 = omega (arith, bound, c.if-place-names.true) in
    let fills = subst (λ s. Meets g.D.Error.Error.fault (Fills g.R.Fields.FieldList.holds ss place os [] c.read_value.new.slots s) c.read_value.result) is (c.read_value.ensures inside fits [] os [] h) in
    subst (λ i. Meets g.D.Error.Error.fault (FillsAt (λ x os. g.R.Fields.FieldList.holds x os []) i (record_fields a) os c.read_value.new.slots (attribute e.1)) c.read_value.result) at
    (meets_more g.D.Error.Error.fault (Fills g.R.Fields.FieldList.holds ss place os [] c.read_value.new.slots (attribute e.1)) (FillsAt (λ x os. g.R.Fields.FieldList.holds x os []) place (record_fields a) os c.read_value.new.slots (attribute e.1))
    (fills_there g.R.Fields.FieldList.holds a.names ss (l.defaults []) os c.read_value.new.slots place there (attribute e.1)) c.read_value.result fills)

pub returns-in_err-deserialize : goal.returns-in_err-deserialize
returns-in_err-deserialize g c = λ named e os key is h.
    let l = g.R.Fields.FieldList.about in
    let a = listed g.R.Record.about l in
    let ss = l.shapes [] in
    let place = c.place_of-place.result in
    let at : place ≡ place_in 0 (record_fields a) e.0 = c.place_of-place.ensures ∙ place_named a named _ _ e.0 c.names-names.ensures key in
    let all : length c.names-names.result.now ≡ length ss = sym (length-map c.names-names.result.now (λ n. n.now)) ∙ (ap length c.names-names.ensures ∙ named.1) in
    let beyond : length ss ≤ place = omega (arith, all, c.if-place-names.false) in
    let p = err_from_is_err_and c.from_residual.result c.from_residual.ensures.1 in
    let failed = subst (λ s. Meets g.D.Error.Error.fault (Ignored g.R.Fields.FieldList.holds a.names ss (l.defaults []) os c.args.slots.now place IgnoredAny beyond s) (Err c.in_err-deserialize.field-0.0)) is c.in_err-deserialize.ensures in
    rw (p.1, p.2, ← at) (not_ignored g.R.Fields.FieldList.holds a.names ss (l.defaults []) os c.args.slots.now place IgnoredAny beyond (attribute e.1) g.D.Error.Error.fault c.in_err-deserialize.field-0.0 failed)

pub returns-in_ok-deserialize : goal.returns-in_ok-deserialize
returns-in_ok-deserialize g c = λ named e os key is h.
    let l = g.R.Fields.FieldList.about in
    let a = listed g.R.Record.about l in
    let ss = l.shapes [] in
    let place = c.place_of-place.result in
    let at : place ≡ place_in 0 (record_fields a) e.0 = c.place_of-place.ensures ∙ place_named a named _ _ e.0 c.names-names.ensures key in
    let all : length c.names-names.result.now ≡ length ss = sym (length-map c.names-names.result.now (λ n. n.now)) ∙ (ap length c.names-names.ensures ∙ named.1) in
    let beyond : length ss ≤ place = omega (arith, all, c.if-place-names.false) in
    let read = subst (λ s. Ignored g.R.Fields.FieldList.holds a.names ss (l.defaults []) os c.args.slots.now place IgnoredAny beyond s (Ok c.in_ok-deserialize.field-0)) is c.in_ok-deserialize.ensures in
    subst (λ i. FillsAt (λ x os. g.R.Fields.FieldList.holds x os []) i (record_fields a) os c.args.slots.now (attribute e.1) (Ok tt)) at
    (ignored g.R.Fields.FieldList.holds a.names ss (l.defaults []) os c.args.slots.now place IgnoredAny beyond (attribute e.1) h c.in_ok-deserialize.field-0 read)
