use Rattle.std.proofs.Common.{◌≡◌, ◌<◌, ◌≤◌, ◌+◌, ◌^◌, [], length, ap, sym, ◌∙◌, inl, inr, arith}
use Rattle.dynamo_record.proofs.Common.{length-map, duplicate_text, listed}
use Rattle.dynamo_record.proofs.ByRules.{of_field, of_none}
use Rattle.dynamo_record.proofs.record_rules.admit.Goals as goal

pub returns-then-is_read : goal.returns-then-is_read
returns-then-is_read g c = λ before at h.
    let l = g.R.Fields.FieldList.about in
    let a = listed g.R.Record.about l in
    let holds = g.R.Fields.FieldList.holds in
    let names : length c.names-names.result.now ≡ length a.names = sym (length-map c.names-names.result.now (λ n. n.now)) ∙ ap length c.names-names.ensures in
    let less : c.args.place < length a.names = omega (arith, names, c.if-place-names.true) in
    let named = c.requires.1 in
    let counted : length (l.shapes []) ≡ l.count + 0 = g.met.R.Fields.FieldList.behind.counted [] in
    let inside : c.args.place < l.count = omega (arith, less, named, counted) in
    let bound = c.names-names.type_inv.0 in
    let fits : c.args.place + 1 < 2 ^ 64 = omega (arith, bound, c.if-place-names.true) in
    let read = c.if-is_read.ensures inside fits h.0 [] h.1 in
    let refused = of_field g.R.RecordRules.rules a c.requires holds c.args.slots.now g.R.RecordRules.rules.denies c.args.place c.args.own.now before at less h ∙ sym read in
    elim c.duplicate_field.ensures [ inl told ↦ inr (refused, (duplicate_text _, told)) | inr lacks ↦ inl lacks ]

pub returns-else-is_read : goal.returns-else-is_read
returns-else-is_read g c = λ before at h.
    let l = g.R.Fields.FieldList.about in
    let a = listed g.R.Record.about l in
    let holds = g.R.Fields.FieldList.holds in
    let names : length c.names-names.result.now ≡ length a.names = sym (length-map c.names-names.result.now (λ n. n.now)) ∙ ap length c.names-names.ensures in
    let less : c.args.place < length a.names = omega (arith, names, c.if-place-names.true) in
    let named = c.requires.1 in
    let counted : length (l.shapes []) ≡ l.count + 0 = g.met.R.Fields.FieldList.behind.counted [] in
    let inside : c.args.place < l.count = omega (arith, less, named, counted) in
    let bound = c.names-names.type_inv.0 in
    let fits : c.args.place + 1 < 2 ^ 64 = omega (arith, bound, c.if-place-names.true) in
    let read = c.if-is_read.ensures inside fits h.0 [] h.1 in
    of_field g.R.RecordRules.rules a c.requires holds c.args.slots.now g.R.RecordRules.rules.denies c.args.place c.args.own.now before at less h ∙ sym read

pub returns-then-denies_unknown : goal.returns-then-denies_unknown
returns-then-denies_unknown g c = λ before at h.
    let a = listed g.R.Record.about g.R.Fields.FieldList.about in
    let holds = g.R.Fields.FieldList.holds in
    let names : length c.names-names.result.now ≡ length a.names = sym (length-map c.names-names.result.now (λ n. n.now)) ∙ ap length c.names-names.ensures in
    let beyond : length a.names ≤ c.args.place = omega (arith, names, c.if-place-names.false) in
    let refused = of_none g.R.RecordRules.rules a c.requires holds c.args.slots.now g.R.RecordRules.rules.denies c.args.place c.args.own.now before at beyond ∙ sym c.if-denies_unknown.ensures in
    elim c.unknown_field.ensures [ inl told ↦ inr (refused, told) | inr lacks ↦ inl lacks ]

pub returns-else-denies_unknown : goal.returns-else-denies_unknown
returns-else-denies_unknown g c = λ before at h.
    let a = listed g.R.Record.about g.R.Fields.FieldList.about in
    let holds = g.R.Fields.FieldList.holds in
    let names : length c.names-names.result.now ≡ length a.names = sym (length-map c.names-names.result.now (λ n. n.now)) ∙ ap length c.names-names.ensures in
    let beyond : length a.names ≤ c.args.place = omega (arith, names, c.if-place-names.false) in
    of_none g.R.RecordRules.rules a c.requires holds c.args.slots.now g.R.RecordRules.rules.denies c.args.place c.args.own.now before at beyond ∙ sym c.if-denies_unknown.ensures
